use Rattle.run_entries.proofs.Prelude.{◌≡◌, ◌++◌, take, flat_map, look_notes}
use Rattle.run_entries.proofs.naming.add_looks.Given as goal

abbrev pub invariant-loop-look : goal.invariant-loop-look
invariant-loop-look l = l.notes.items ≡ l.fn.notes.items ++ flat_map look_notes (take l.look-index l.looks)
