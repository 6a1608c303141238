use Rattle.stage_report.proofs.Prelude.{ap, arith, length}
use Rattle.stage_report.proofs.Walked.{setting, too_long, writable}
use Rattle.stage_report.proofs.walking.walk_stage.Goals as goal

pub returns-then-len-gt-MAX_ENTRIES-clause-stopped : goal.returns-then-len-gt-MAX_ENTRIES-clause-stopped
returns-then-len-gt-MAX_ENTRIES-clause-stopped g c =
    let count = g.G.Plot.count in
    let s = setting c.args.common.now (g.G.Plot.tree c.args.files.now) c.args.beginning.done c.args.beginning.starts.items
    (count c.args.files.now) (count c.stage_from.new.files) in
    too_long s c.args.stop_after c.in_ok-stage.stage c.in_ok-stage.ensures.stage
    (omega (arith, ap length c.list.ensures, c.len.ensures, c.if-len-gt-MAX_ENTRIES.true))

pub returns-clause-writable : goal.returns-clause-writable
returns-clause-writable g c =
    let count = g.G.Plot.count in
    let s = setting c.args.common.now (g.G.Plot.tree c.args.files.now) c.args.beginning.done c.args.beginning.starts.items
    (count c.args.files.now) (count c.stage_from.new.files) in
    writable s c.args.stop_after c.in_ok-stage.stage c.requires.writable c.requires.beside c.in_ok-stage.ensures.stage
