use Rattle.tree_copy.proofs.Prelude.{◌≡◌, false, take, list_any, is_within}
use Rattle.tree_copy.proofs.targets.pair_of.Given as goal

-- the path is within no source so far
abbrev pub invariant-loop-k : goal.invariant-loop-k
invariant-loop-k l = list_any (λ pair. is_within l.path pair.source) (take l.k l.pairs) ≡ false
