use Rattle.range_copy.proofs.Prelude.{take, AreFailed}
use Rattle.range_copy.proofs.failing.failed_targets.Given as goal

-- the targets of the rows so far
abbrev pub invariant-loop-k : goal.invariant-loop-k
invariant-loop-k l = AreFailed l.pairs (take l.k l.report.0) l.failed.set.keys
