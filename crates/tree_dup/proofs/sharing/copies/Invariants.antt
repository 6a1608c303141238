use Rattle.tree_dup.proofs.Prelude.{◌≡◌, map, take, still}
use Rattle.tree_dup.proofs.sharing.copies.Given as goal

abbrev pub invariant-loop-file : goal.invariant-loop-file
invariant-loop-file l = record { run : l.run.items ≡ map still (take l.file-index l.files) }
