use Rattle.run_entries.proofs.Prelude.{◌≡◌, ◌++◌, take, path_notes}
use Rattle.run_entries.proofs.naming.name_paths.Given as goal

abbrev pub invariant-loop-path : goal.invariant-loop-path
invariant-loop-path l = l.notes.items ≡ l.fn.notes.items ++ path_notes l.why (take l.path-index l.paths)
