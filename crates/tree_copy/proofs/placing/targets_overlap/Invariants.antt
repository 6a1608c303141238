use Rattle.tree_copy.proofs.Prelude.{◌≡◌, length, map, overlap}
use Rattle.tree_copy.proofs.placing.targets_overlap.Given as goal

-- the targets that were passed overlap no other
abbrev pub invariant-loop-rest : goal.invariant-loop-rest
invariant-loop-rest l = overlap (map (λ pair. pair.target) l.pairs) ≡ overlap (map (λ pair. pair.target) l.rest)

abbrev pub decreases-loop-rest : goal.decreases-loop-rest
decreases-loop-rest l = length l.rest
