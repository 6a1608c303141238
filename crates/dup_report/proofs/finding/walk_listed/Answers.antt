use Rattle.dup_report.proofs.Prelude.{side_of, stats_told}
use Rattle.dup_report.proofs.finding.walk_listed.Goals as goal

pub returns-clause-told : goal.returns-clause-told
returns-clause-told g c =
    let before = side_of g.G.Plot c.args.files.now in
    let after = side_of g.G.Plot c.walk_side.new.files in
    stats_told c.entries_are_told.ensures c.args.given.items c.in_ok-list.field-0.list before after c.in_ok-list.ensures.walked
