use Rattle.run_entries.proofs.Prelude.{◌≡◌, ◌++◌, take, removal_notes}
use Rattle.run_entries.proofs.naming.name_removals.Given as goal

abbrev pub invariant-loop-row : goal.invariant-loop-row
invariant-loop-row l = l.notes.items ≡ l.fn.notes.items ++ removal_notes (take l.row-index l.rows)
