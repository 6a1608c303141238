use Rattle.compare_report.proofs.Prelude.{◌≡◌, ◌++◌, take, missed_notes}
use Rattle.compare_report.proofs.naming.add_missed.Given as goal

abbrev pub invariant-loop-file : goal.invariant-loop-file
invariant-loop-file l = l.notes.items ≡ l.fn.notes.items ++ missed_notes l.why (take l.file-index l.missed)
