use Rattle.tree_copy.proofs.Copiers.{link_spared, link_told}
use Rattle.tree_copy.proofs.Shown.{link_is_spared, link_placed, mapped_ok}
use Rattle.tree_copy.proofs.linking.link_made.Goals as goal

pub returns-in-Some-clause-told : goal.returns-in-Some-clause-told
returns-in-Some-clause-told g c =
    link_told (g.R.Tree.tree c.args.reader.now) c.args.path.now _ c.args.entry.now _ _ _ c.in-Some.is c.placed.ensures.told

pub returns-in-None-clause-told : goal.returns-in-None-clause-told
returns-in-None-clause-told g c =
    link_spared (g.R.Tree.tree c.args.reader.now) c.args.path.now c.args.entry.now _ _ c.in-None.is c.spared.ensures.told

pub returns-in-Some-clause-shown : goal.returns-in-Some-clause-shown
returns-in-Some-clause-shown g c =
    mapped_ok _ _ c.placed.result
    (λ f. link_placed g.R.Tree.gives g.P.Plot.gives c.args.path.now c.args.entry.now _ f c.in-Some.is) (c.placed.ensures.shown c.args.entry.now c.in-Some.is)

pub returns-in-None-clause-shown : goal.returns-in-None-clause-shown
returns-in-None-clause-shown g c =
    link_is_spared g.R.Tree.gives g.P.Plot.gives c.args.path.now c.args.entry.now c.spared.result c.in-None.is c.spared.ensures.shown
