use Rattle.range_copy.proofs.Prelude.{inl, subst, LookMeans, fate_of}
use Rattle.outside.specs.declared.trees.Kind.TheVariants as kind
use Rattle.range_copy.proofs.Showing.{placed_replaced}
use Rattle.range_copy.proofs.placing.placed_over.Goals as goal

pub returns-in-Done-clause-shown : goal.returns-in-Done-clause-shown
returns-in-Done-clause-shown g c =
    placed_replaced g.G.Plot.gives c.args.path.now g.G.Reader.Tree.gives c.replaced.result c.replaced.new.ground c.replaced.ensures.shown

pub returns-in-Failed-clause-shown : goal.returns-in-Failed-clause-shown
returns-in-Failed-clause-shown g c =
    inl (subst (λ f. LookMeans g.G.Reader.Tree.gives c.args.path.now kind.File (fate_of f)) c.in-Failed.is c.in_ok-look.ensures.shown)

pub returns-in-Conflict-clause-shown : goal.returns-in-Conflict-clause-shown
returns-in-Conflict-clause-shown g c =
    inl (subst (λ f. LookMeans g.G.Reader.Tree.gives c.args.path.now kind.File (fate_of f)) c.in-Conflict.is c.in_ok-look.ensures.shown)

pub returns-in-Changed-clause-shown : goal.returns-in-Changed-clause-shown
returns-in-Changed-clause-shown g c =
    inl (subst (λ f. LookMeans g.G.Reader.Tree.gives c.args.path.now kind.File (fate_of f)) c.in-Changed.is c.in_ok-look.ensures.shown)
