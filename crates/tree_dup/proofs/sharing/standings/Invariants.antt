use Rattle.tree_dup.proofs.Prelude.{◌≡◌, map, take, standing_of}
use Rattle.tree_dup.proofs.sharing.standings.Given as goal

abbrev pub invariant-loop-file : goal.invariant-loop-file
invariant-loop-file l = record { standings : l.standings.items ≡ map standing_of (take l.file-index l.run) }
