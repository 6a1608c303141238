use Rattle.tree_copy.proofs.Prelude.{inl, inr, refl, subst, sym, false≢true, is_top, may_change, call_of, node_of}
use Rattle.std.proofs.Common.{IsTrue}
use Rattle.outside.specs.Asked as asked
use Rattle.tree_copy.proofs.Places.{removed_only, replaced_done, replaced_lost}
use Rattle.tree_copy.proofs.Shown.{mapped_ok, refused, written}
use Rattle.tree_copy.proofs.anew.replaced.Goals as goal

pub returns-in-Ok-make-clause-told : goal.returns-in-Ok-make-clause-told
returns-in-Ok-make-clause-told g c =
    replaced_done (node_of c.args.new.now) c.args.path.now (g.P.Plot.area c.remove_file.new.self) _ _ _ c.remove_file.ensures.tells
    (removed_only _ _ _ c.in-Ok.ensures.told)
    c.in-Ok-make.ensures.told

pub returns-in-Err-make-clause-told : goal.returns-in-Err-make-clause-told
returns-in-Err-make-clause-told g c =
    replaced_lost (node_of c.args.new.now) c.args.path.now (g.P.Plot.area c.remove_file.new.self) c.in-Err-make.refused _ _ _ _ c.remove_file.ensures.tells
    (subst (λ area. IsTrue (is_top area c.args.path.now)) (sym c.remove_file.ensures.area) c.requires.at.top)
    c.fate_of-in-Err-make.ensures.told (removed_only _ _ _ c.in-Ok.ensures.told) c.in-Err-make.ensures.told

pub returns-in-Err-clause-shown : goal.returns-in-Err-clause-shown
returns-in-Err-clause-shown g c =
    mapped_ok _ _ c.fate_of.result (λ f h. inr h)
    (refused g.P.Plot.gives c.args.path.now asked.remove_file c.in-Err.refused _ _ c.fate_of.result c.in-Err.ensures.given
    (λ is. absurd (false≢true (subst (λ x. IsTrue (may_change x)) is c.in-Err.ensures.named))) c.fate_of.ensures.means)

pub returns-in-Ok-make-clause-shown : goal.returns-in-Ok-make-clause-shown
returns-in-Ok-make-clause-shown g c = inl (refl, written g.P.Plot.gives c.args.path.now (call_of c.args.new.now) _ _ c.in-Ok-make.ensures.given)

pub returns-in-Err-make-clause-shown : goal.returns-in-Err-make-clause-shown
returns-in-Err-make-clause-shown g c =
    mapped_ok _ _ c.fate_of-in-Err-make.result (λ f h. inr h)
    (refused g.P.Plot.gives c.args.path.now (call_of c.args.new.now) c.in-Err-make.refused _ _ c.fate_of-in-Err-make.result
    c.in-Err-make.ensures.given (λ is. record { before = _; given = c.in-Ok.ensures.given }) c.fate_of-in-Err-make.ensures.means)
