use Rattle.tree_sync.proofs.Prelude.{◌≡◌, map, take}
use Rattle.tree_sync.proofs.planning.paths_of.Given as goal

-- the paths of the files that were passed
abbrev pub invariant-loop-file : goal.invariant-loop-file
invariant-loop-file l = l.paths.items ≡ map (λ m. m.path) (take l.file-index l.missed)
