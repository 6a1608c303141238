use Rattle.shared_reads.proofs.Prelude.{◌-◌, ◌≤◌, length, All, HasRoom}
use Rattle.shared_reads.proofs.hiring.desks.Given as goal

abbrev pub invariant-loop-alloc : goal.invariant-loop-alloc
invariant-loop-alloc l = record {
  most : length l.desks.items ≤ l.number;
  room : All HasRoom l.desks.items;
}

abbrev pub decreases-loop-alloc : goal.decreases-loop-alloc
decreases-loop-alloc l = l.number - length l.desks.items
