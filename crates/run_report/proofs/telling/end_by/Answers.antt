use Rattle.run_report.proofs.Prelude.{refusal_line, stream_of}
use Rattle.run_report.specs.declared.statuses.Status.TheVariants as status
use Rattle.run_report.proofs.OneLine.{told_by}
use Rattle.run_report.proofs.telling.end_by.Goals as goal

pub returns-clause-told : goal.returns-clause-told
returns-clause-told g c =
    let before = stream_of g.E.Sink c.args.notes.now in
    let after = stream_of g.E.Sink c.end_with.new.notes in
    let told = c.end_with.ensures in
    told_by c.refusal_line.result (refusal_line c.args.refusal) status.Words c.end_with.result before after
    c.refusal_line.ensures told.status told.line told.memory
