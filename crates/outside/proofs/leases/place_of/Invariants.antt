use Rattle.outside.proofs.Places.{NoneBefore}
use Rattle.outside.proofs.leases.place_of.Given as goal

abbrev pub invariant-loop-k : goal.invariant-loop-k
invariant-loop-k l = NoneBefore l.k l.tops l.out
