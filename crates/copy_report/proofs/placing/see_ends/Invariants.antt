use Rattle.copy_report.proofs.Prelude.{take, All, IsPair}
use Rattle.copy_report.proofs.placing.see_ends.Given as goal

-- the pairs that were seen
abbrev pub invariant-loop-pair : goal.invariant-loop-pair
invariant-loop-pair l = All IsPair (take l.pair-index l.pairs)
