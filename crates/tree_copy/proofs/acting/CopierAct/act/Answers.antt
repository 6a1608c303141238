use Rattle.outside.specs.declared.trees.Kind.TheVariants as kind
use Rattle.tree_copy.proofs.Copiers.{dir_told}
use Rattle.tree_copy.proofs.Shown.{may_copy}
use Rattle.tree_copy.proofs.acting.CopierAct.act.Goals as goal

pub returns-in-Dir-clause-told : goal.returns-in-Dir-clause-told
returns-in-Dir-clause-told g c =
    dir_told (g.R.Tree.tree c.args.self.now.reader) c.args.path.now c.args.entry.now _ _ _ _ c.in-Some.is c.in-Dir.is c.dir_made.ensures.told

pub returns-in-Dir-clause-may_come : goal.returns-in-Dir-clause-may_come
returns-in-Dir-clause-may_come g c =
    may_copy g.R.Tree.gives g.P.Plot.gives c.args.path.now c.args.entry.now _ kind.Dir c.dir_made.result c.in-Some.is c.in-Dir.is
    (c.dir_made.ensures.shown c.args.entry.now)

pub returns-in-File-clause-may_come : goal.returns-in-File-clause-may_come
returns-in-File-clause-may_come g c =
    may_copy g.R.Tree.gives g.P.Plot.gives c.args.path.now c.args.entry.now _ kind.File c.file_made.result c.in-Some.is c.in-File.is
    c.file_made.ensures.shown

pub returns-in-Link-clause-may_come : goal.returns-in-Link-clause-may_come
returns-in-Link-clause-may_come g c =
    may_copy g.R.Tree.gives g.P.Plot.gives c.args.path.now c.args.entry.now _ kind.Link c.link_made.result c.in-Some.is c.in-Link.is
    c.link_made.ensures.shown
