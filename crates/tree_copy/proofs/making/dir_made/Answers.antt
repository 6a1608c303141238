use Rattle.tree_copy.proofs.Prelude.{◌∙◌, inl, refl, sym, get, insert, empty_dir, make_refusal}
use Rattle.outside.specs.Asked as asked
use Rattle.outside.specs.declared.trees.Kind.TheVariants as kind
use Rattle.level_work.specs.declared.items.Fate.TheVariants as fate
use Rattle.tree_copy.proofs.Makes.{made, kept}
use Rattle.tree_copy.proofs.Puts.{answered, was_taken, free, taken}
use Rattle.tree_copy.proofs.Shown.{dir_looked, dir_placed, mapped_ok, not_taken, refused, refused_is, written}
use Rattle.tree_copy.proofs.making.dir_made.Goals as goal

pub returns-in-Ok-clause-told : goal.returns-in-Ok-clause-told
returns-in-Ok-clause-told g c =
    let p = c.args.path.now in
    answered (λ files. make_refusal (g.P.Plot.area c.args.part.now) files p) (λ files. insert files p empty_dir) _ _ _
    (λ files r. made (g.R.Tree.tree c.args.reader.now) p files (free (get files p) _ r)) c.in-Ok.ensures.told

pub returns-then-is_taken-clause-told : goal.returns-then-is_taken-clause-told
returns-then-is_taken-clause-told g c =
    let p = c.args.path.now in
    let area = g.P.Plot.area c.args.part.now in
    was_taken (λ files. make_refusal area files p) (λ files. insert files p empty_dir) p c.in-Err.refused _ _ _ (sym c.is_taken.ensures ∙ c.if-is_taken.true)
    (λ files r. kept (g.R.Tree.tree c.args.reader.now) p _ files c.look.ensures.told (taken area p files c.requires.top r)) c.in-Err.ensures.told

pub returns-in-Ok-clause-shown : goal.returns-in-Ok-clause-shown
returns-in-Ok-clause-shown g c = λ e. dir_placed g.R.Tree.gives g.P.Plot.gives c.args.path.now e fate.Done
    (inl (refl, written g.P.Plot.gives c.args.path.now asked.make_dir _ _ c.in-Ok.ensures.given))

pub returns-then-is_taken-clause-shown : goal.returns-then-is_taken-clause-shown
returns-then-is_taken-clause-shown g c = λ e. dir_looked g.R.Tree.gives g.P.Plot.gives c.args.path.now e c.look.result c.look.ensures.shown

pub returns-else-is_taken-clause-shown : goal.returns-else-is_taken-clause-shown
returns-else-is_taken-clause-shown g c = λ e.
    mapped_ok _ _ c.fate_of.result
    (λ f h. dir_placed g.R.Tree.gives g.P.Plot.gives c.args.path.now e f
    (refused_is g.R.Tree.gives g.P.Plot.gives c.args.path.now e kind.Dir asked.make_dir f h))
    (refused g.P.Plot.gives c.args.path.now asked.make_dir c.in-Err.refused _ _ c.fate_of.result c.in-Err.ensures.given
    (not_taken g.P.Plot.gives c.args.path.now c.in-Err.refused _ (sym c.is_taken.ensures ∙ c.if-is_taken.false)) c.fate_of.ensures.means)
