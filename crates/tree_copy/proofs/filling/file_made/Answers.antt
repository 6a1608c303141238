use Rattle.tree_copy.proofs.Prelude.{◌∙◌, refl, sym, subst, IfSome, size_by, IsFilled, ShowsFilled}
use Rattle.std.proofs.Common.{IfOk}
use Rattle.outside.specs.Asked as asked
use Rattle.outside.specs.declared.trees.Kind.TheVariants as kind
use Rattle.tree_copy.proofs.Copiers.{file_filled, file_refused}
use Rattle.tree_copy.proofs.Shown.{file_is_filled, mapped_ok, not_done, not_placed, was_made}
use Rattle.tree_copy.proofs.filling.file_made.Goals as goal

pub returns-then-is_done-clause-told : goal.returns-then-is_done-clause-told
returns-then-is_done-clause-told g c =
    let entry = c.args.entry.now in
    let path = c.args.path.now in
    let after = g.P.Plot.tree c.filled.new.part in
    file_filled (g.R.Tree.tree c.args.reader.now) path entry c.in_ok-fate.fate _ _ _ _ (sym c.is_done.ensures ∙ c.if-is_done.true)
    c.placed.ensures.stepped.kept.tells
    c.in_ok-fate.ensures.told c.filled.ensures.others
    (subst (λ told. IfSome told (λ seen. IfSome after (IsFilled seen entry.path path (size_by entry.stat) c.filled.result))) c.placed.ensures.stepped.same
    (subst (λ size. IfSome (g.R.Tree.tree c.placed.new.reader) (λ seen. IfSome after (IsFilled seen entry.path path size c.filled.result)))
    c.size_of-size.ensures c.filled.ensures.told))

pub returns-else-is_done-clause-told : goal.returns-else-is_done-clause-told
returns-else-is_done-clause-told g c =
    file_refused (g.R.Tree.tree c.args.reader.now) c.args.path.now c.args.entry.now c.in_ok-fate.fate _ _ (sym c.is_done.ensures ∙ c.if-is_done.false)
    c.in_ok-fate.ensures.told

pub returns-then-is_done-clause-shown : goal.returns-then-is_done-clause-shown
returns-then-is_done-clause-shown g c =
    mapped_ok _ _ c.filled.result (file_is_filled g.R.Tree.gives g.P.Plot.gives c.args.path.now c.args.entry.now)
    (subst (λ size. IfOk c.filled.result (ShowsFilled g.R.Tree.gives g.P.Plot.gives c.args.entry.now.path c.args.path.now size))
    c.size_of-size.ensures c.filled.ensures.shown)

pub returns-else-is_done-clause-shown : goal.returns-else-is_done-clause-shown
returns-else-is_done-clause-shown g c =
    not_placed g.R.Tree.gives g.P.Plot.gives c.args.path.now c.args.entry.now kind.File asked.make_file c.in_ok-fate.fate
    (not_done c.in_ok-fate.fate (sym c.is_done.ensures ∙ c.if-is_done.false)) (c.in_ok-fate.ensures.shown c.args.entry.now refl)

pub filled-requires-clause-made : goal.filled-requires-clause-made
filled-requires-clause-made g c =
    was_made g.R.Tree.gives g.P.Plot.gives c.args.path.now c.args.entry.now kind.File asked.make_file c.in_ok-fate.fate
    (sym c.is_done.ensures ∙ c.if-is_done.true) (c.in_ok-fate.ensures.shown c.args.entry.now refl)
