use Rattle.tree_copy.proofs.Prelude.{◌∙◌, inl, refl, subst, sym, IfSome, get, insert, make_refusal, both_told, IsPlaced, IsReplaced, Looked, call_of, is_old_of}
use Rattle.tree_copy.proofs.Prelude.{kind_of, node_of}
use Rattle.tree_copy.proofs.Places.{StillTaken, left_there, placed_new, replaced_there}
use Rattle.tree_copy.proofs.Puts.{answered, free, taken, was_taken}
use Rattle.tree_copy.proofs.Shown.{left_is, mapped_ok, not_taken, refused, refused_is, replaced_is, written}
use Rattle.tree_copy.proofs.anew.placed.Goals as goal

pub returns-in-Ok-clause-told : goal.returns-in-Ok-clause-told
returns-in-Ok-clause-told g c =
    let p = c.args.path.now in
    let new = c.args.new.now in
    answered (λ files. make_refusal (g.P.Plot.area c.args.part.now) files p) (λ files. insert files p (node_of new)) _ _ _
    (λ files r. placed_new (node_of new) (is_old_of new) (g.R.Tree.tree c.args.reader.now) p files (free (get files p) _ r)) c.in-Ok.ensures.told

pub returns-in_default-clause-told : goal.returns-in_default-clause-told
returns-in_default-clause-told g c =
    let p = c.args.path.now in
    let area = g.P.Plot.area c.args.part.now in
    was_taken (λ files. make_refusal area files p) (λ files. insert files p (node_of c.args.new.now)) p c.in-Err.refused _ _ _
    (sym c.is_taken.ensures ∙ c.if-not-is_taken.false)
    (λ files r. left_there c.args.new.now (g.R.Tree.tree c.args.reader.now) p _ files c.in_default.not-Done c.may_replace.ensures.told
    (taken area p files c.requires.top r)) c.in-Err.ensures.told

pub returns-in-Done-clause-told : goal.returns-in-Done-clause-told
returns-in-Done-clause-told g c =
    let p = c.args.path.now in
    let new = c.args.new.now in
    let area = g.P.Plot.area c.args.part.now in
    let told = g.R.Tree.tree c.args.reader.now in
    both_told (StillTaken p) (IsReplaced (node_of new) p c.replaced.result) (IsPlaced (node_of new) (is_old_of new) told p c.replaced.result) _ _ _
    c.make.ensures.kept.tells
    (λ a b d. replaced_there new told p c.replaced.result a b d (subst (λ f. IfSome told (Looked (kind_of new) p f)) c.in-Done.is c.may_replace.ensures.told))
    (was_taken (λ files. make_refusal area files p) (λ files. insert files p (node_of new)) p c.in-Err.refused _ _ _
    (sym c.is_taken.ensures ∙ c.if-not-is_taken.false)
    (λ files r. record { same = refl; there = taken area p files c.requires.top r }) c.in-Err.ensures.told)
    c.replaced.ensures.told

pub returns-in-Ok-clause-shown : goal.returns-in-Ok-clause-shown
returns-in-Ok-clause-shown g c = λ e is. inl (refl, written g.P.Plot.gives c.args.path.now (call_of c.args.new.now) _ _ c.in-Ok.ensures.given)

pub returns-then-not-is_taken-clause-shown : goal.returns-then-not-is_taken-clause-shown
returns-then-not-is_taken-clause-shown g c = λ e is.
    let new = c.args.new.now in
    mapped_ok _ _ c.fate_of.result (refused_is g.R.Tree.gives g.P.Plot.gives c.args.path.now e (kind_of new) (call_of new))
    (refused g.P.Plot.gives c.args.path.now (call_of new) c.in-Err.refused _ _ c.fate_of.result c.in-Err.ensures.given
    (not_taken g.P.Plot.gives c.args.path.now c.in-Err.refused _ (sym c.is_taken.ensures ∙ c.if-not-is_taken.true)) c.fate_of.ensures.means)

pub returns-in-Done-clause-shown : goal.returns-in-Done-clause-shown
returns-in-Done-clause-shown g c = λ e is.
    let new = c.args.new.now in
    mapped_ok _ _ c.replaced.result (replaced_is g.R.Tree.gives g.P.Plot.gives c.args.path.now e (kind_of new) (call_of new)) c.replaced.ensures.shown

pub returns-in_default-clause-shown : goal.returns-in_default-clause-shown
returns-in_default-clause-shown g c = λ e is.
    let new = c.args.new.now in
    left_is g.R.Tree.gives g.P.Plot.gives c.args.path.now e (kind_of new) (call_of new) c.may_replace.result c.in_default.not-Done
    (c.may_replace.ensures.shown e is)
