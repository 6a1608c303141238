use Rattle.flat_list.proofs.Prelude.{length, IsPermutation, all_of}
use Rattle.flat_list.proofs.runs.Cut.end.Given as goal

-- entries only moved
abbrev pub invariant-loop-self : goal.invariant-loop-self
invariant-loop-self l = IsPermutation (all_of l.fn.self) (all_of l.self)

abbrev pub decreases-loop-self : goal.decreases-loop-self
decreases-loop-self l = length l.self.waiting
