use Rattle.run_entries.proofs.Prelude.{◌≡◌, ◌++◌, map, on_side}
use Rattle.run_entries.proofs.naming.name_entries.Given as goal

abbrev pub invariant-loop-note : goal.invariant-loop-note
invariant-loop-note l = l.notes.items ≡ l.fn.notes.items ++ map (on_side l.dest) l.yielded
