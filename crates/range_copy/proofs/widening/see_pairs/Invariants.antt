use Rattle.range_copy.proofs.Prelude.{take, All, IsPair}
use Rattle.range_copy.proofs.widening.see_pairs.Given as goal

-- the pairs that were seen
abbrev pub invariant-loop-pair : goal.invariant-loop-pair
invariant-loop-pair l = All IsPair (take l.pair-index l.pairs)
