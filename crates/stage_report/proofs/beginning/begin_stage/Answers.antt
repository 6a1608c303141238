use Rattle.stage_report.proofs.Prelude.{sym, subst, map, Apart, all_of, IsWritable, IsBeside}
use Rattle.stage_report.proofs.Joins.{no_entries_writable, no_entries_beside}
use Rattle.stage_report.proofs.Beside.{placed_beside}
use Rattle.stage_report.proofs.Placed.{placed_apart}
use Rattle.stage_report.proofs.beginning.begin_stage.Goals as goal

pub returns-in_ok-roots_of-in-Some-clause-beside : goal.returns-in_ok-roots_of-in-Some-clause-beside
returns-in_ok-roots_of-in-Some-clause-beside g c =
    let starts = c.in_ok-roots_of-in-Some.field-0.items in subst (λ done. IsBeside done starts) (sym c.make.ensures) (no_entries_beside starts)

pub returns-in_ok-roots_of-in-Some-clause-writable : goal.returns-in_ok-roots_of-in-Some-clause-writable
returns-in_ok-roots_of-in-Some-clause-writable g c = subst IsWritable (sym c.make.ensures) no_entries_writable

pub returns-in_ok-starts-in-None-clause-apart : goal.returns-in_ok-starts-in-None-clause-apart
returns-in_ok-starts-in-None-clause-apart g c =
    let kept = c.in_ok-done-in-None in
    subst Apart (sym c.in_ok-starts-in-None.ensures)
    (placed_apart kept.field-0.done (all_of (map (λ list. list.items) kept.field-0.left.items)) kept.ensures.read.placed)

pub returns-in_ok-starts-in-None-clause-beside : goal.returns-in_ok-starts-in-None-clause-beside
returns-in_ok-starts-in-None-clause-beside g c =
    let kept = c.in_ok-done-in-None in
    let left = all_of (map (λ list. list.items) kept.field-0.left.items) in
    subst (IsBeside kept.field-0.done) (sym c.in_ok-starts-in-None.ensures) (placed_beside kept.field-0.done left kept.ensures.read.placed)
