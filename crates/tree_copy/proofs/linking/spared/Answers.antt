use Rattle.tree_copy.proofs.Prelude.{inl, inr, refl, subst, LookMeans}
use Rattle.outside.specs.declared.trees.Kind.TheVariants as kind
use Rattle.tree_copy.proofs.linking.spared.Goals as goal

pub returns-in-Done-clause-shown : goal.returns-in-Done-clause-shown
returns-in-Done-clause-shown g c =
    inr (refl, subst (LookMeans g.R.Tree.gives c.args.path.now kind.Link) c.in-Done.is c.look.ensures.shown)

pub returns-in_default-clause-shown : goal.returns-in_default-clause-shown
returns-in_default-clause-shown g c = inl (c.in_default.not-Done, c.look.ensures.shown)
