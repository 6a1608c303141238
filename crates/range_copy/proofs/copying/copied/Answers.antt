use Rattle.range_copy.proofs.Prelude.{◌∙◌, inr, subst, sym, PlacedBy, by_read}
use Rattle.range_copy.specs.declared.came.Came.TheVariants as came
use Rattle.range_copy.proofs.Counted.{fresh_counted}
use Rattle.range_copy.proofs.Outcomes.{outcome_done}
use Rattle.range_copy.proofs.Showing.{not_made, unread}
use Rattle.range_copy.proofs.copying.copied.Goals as goal

pub returns-in_default-clause-cause : goal.returns-in_default-clause-cause
returns-in_default-clause-cause g c =
    λ e. inr (fresh_counted g.G.Reader.Tree.count c.args.fillers.now c.requires.fresh (λ d. c.in_default.not-Done (c.outcome.ensures ∙ d)))

pub spanned-requires-clause-fine : goal.spanned-requires-clause-fine
spanned-requires-clause-fine g c κs within = outcome_done c.args.fillers.now (sym c.outcome.ensures ∙ c.in-Done.is)

pub returns-in_default-clause-shown : goal.returns-in_default-clause-shown
returns-in_default-clause-shown g c =
    by_read (unread g.G.Reader.Tree.gives c.args.source.now c.args.fillers.now c.requires.shown (λ d. c.in_default.not-Done (c.outcome.ensures ∙ d)))

pub spanned-requires-clause-made : goal.spanned-requires-clause-made
spanned-requires-clause-made g c κs within =
    subst (PlacedBy g.G.Reader.Tree.gives g.G.Plot.gives c.args.target.now c.placed.new.ground) c.in-Done-2.is c.in_ok-placed.ensures.shown

pub returns-in-Failed-clause-shown : goal.returns-in-Failed-clause-shown
returns-in-Failed-clause-shown g c =
    not_made g.G.Plot.gives c.args.target.now g.G.Reader.Tree.gives g.G.Plot.area g.G.Plot.count c.args.source.now c.args.size came.Failed
    c.placed.new.ground (λ e. cc)
    (subst (PlacedBy g.G.Reader.Tree.gives g.G.Plot.gives c.args.target.now c.placed.new.ground) c.in-Failed.is c.in_ok-placed.ensures.shown)

pub returns-in-Conflict-clause-shown : goal.returns-in-Conflict-clause-shown
returns-in-Conflict-clause-shown g c =
    not_made g.G.Plot.gives c.args.target.now g.G.Reader.Tree.gives g.G.Plot.area g.G.Plot.count c.args.source.now c.args.size came.Conflict
    c.placed.new.ground (λ e. cc)
    (subst (PlacedBy g.G.Reader.Tree.gives g.G.Plot.gives c.args.target.now c.placed.new.ground) c.in-Conflict.is c.in_ok-placed.ensures.shown)

pub returns-in-Changed-clause-shown : goal.returns-in-Changed-clause-shown
returns-in-Changed-clause-shown g c =
    not_made g.G.Plot.gives c.args.target.now g.G.Reader.Tree.gives g.G.Plot.area g.G.Plot.count c.args.source.now c.args.size came.Changed
    c.placed.new.ground (λ e. cc)
    (subst (PlacedBy g.G.Reader.Tree.gives g.G.Plot.gives c.args.target.now c.placed.new.ground) c.in-Changed.is c.in_ok-placed.ensures.shown)
