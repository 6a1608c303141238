use Rattle.tree_copy.proofs.Prelude.{◌≡◌, length, overlap}
use Rattle.tree_copy.proofs.placing.overlap.Given as goal

-- the paths that were passed overlap no other
abbrev pub invariant-loop-rest : goal.invariant-loop-rest
invariant-loop-rest l = overlap l.paths ≡ overlap l.rest

abbrev pub decreases-loop-rest : goal.decreases-loop-rest
decreases-loop-rest l = length l.rest
