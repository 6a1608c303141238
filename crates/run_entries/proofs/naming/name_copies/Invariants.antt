use Rattle.run_entries.proofs.Prelude.{◌≡◌, ◌++◌, take, copy_notes}
use Rattle.run_entries.proofs.naming.name_copies.Given as goal

abbrev pub invariant-loop-row : goal.invariant-loop-row
invariant-loop-row l = l.notes.items ≡ l.fn.notes.items ++ copy_notes (take l.row-index l.rows)
