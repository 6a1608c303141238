use Rattle.copy_report.proofs.Prelude.{side_of}
use Rattle.copy_report.proofs.Ready.{walk_can, walk_fits}
use Rattle.copy_report.proofs.walking.walk_sources.Goals as goal

pub returns-clause-can : goal.returns-clause-can
returns-clause-can g c =
    let before = side_of g.G.Plot c.args.files.now in
    let after = side_of g.G.Plot c.walk_side.new.files in
    let sources = c.args.sources.items in
    let pairs = c.args.pairs.now in
    let list = c.in_ok-list.field-0.list in
    let told = c.in_ok-list.ensures in
    let valid = c.paths_are_valid.ensures in
    record {
      can = walk_can sources pairs list before after c.requires.placed told.walked valid told.ascend;
      fits = walk_fits c.entries_have_parents.ensures c.entries_are_told.ensures sources pairs list before after c.requires.placed told.walked
          valid told.ascend;
    }
