use Rattle.shared_reads.proofs.Prelude.{length, IsCut}
use Rattle.shared_reads.proofs.keeping.take_last.Given as goal

abbrev pub invariant-loop-last : goal.invariant-loop-last
invariant-loop-last g l = record { cut : IsCut l.fn.list.items l.list.items }

abbrev pub decreases-loop-last : goal.decreases-loop-last
decreases-loop-last g l = length l.list.items
