use Rattle.range_copy.proofs.Prelude.{subst, MadeBy}
use Rattle.range_copy.specs.declared.came.Came.TheVariants as came
use Rattle.range_copy.proofs.Showing.{placed_made}
use Rattle.range_copy.proofs.placing.placed.Goals as goal

pub returns-in-Done-clause-shown : goal.returns-in-Done-clause-shown
returns-in-Done-clause-shown g c =
    placed_made g.G.Plot.gives c.args.path.now g.G.Reader.Tree.gives came.Done c.args.ground.now c.made.new.ground (λ e. cc)
    (subst (MadeBy g.G.Plot.gives c.args.path.now c.args.ground.now c.made.new.ground) c.in-Done.is c.in_ok-made.ensures.shown)

pub returns-in-Failed-clause-shown : goal.returns-in-Failed-clause-shown
returns-in-Failed-clause-shown g c =
    placed_made g.G.Plot.gives c.args.path.now g.G.Reader.Tree.gives came.Failed c.args.ground.now c.made.new.ground (λ e. cc)
    (subst (MadeBy g.G.Plot.gives c.args.path.now c.args.ground.now c.made.new.ground) c.in-Failed.is c.in_ok-made.ensures.shown)

pub returns-in-Changed-clause-shown : goal.returns-in-Changed-clause-shown
returns-in-Changed-clause-shown g c =
    placed_made g.G.Plot.gives c.args.path.now g.G.Reader.Tree.gives came.Changed c.args.ground.now c.made.new.ground (λ e. cc)
    (subst (MadeBy g.G.Plot.gives c.args.path.now c.args.ground.now c.made.new.ground) c.in-Changed.is c.in_ok-made.ensures.shown)
