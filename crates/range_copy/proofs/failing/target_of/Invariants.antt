use Rattle.range_copy.proofs.Prelude.{◌≡◌, false, take, list_any, is_within}
use Rattle.range_copy.proofs.failing.target_of.Given as goal

-- the path is within no source so far
abbrev pub invariant-loop-pair : goal.invariant-loop-pair
invariant-loop-pair l = list_any (λ pair. is_within l.path pair.source) (take l.pair-index l.pairs) ≡ false
