use Rattle.shared_reads.proofs.Prelude.{◌≡◌, ◌+◌, ◌≤◌, ◌++◌, map, length, All, vec_len, vec_capacity, HasRoom, IsIdle}
use Rattle.std.proofs.Common.{reverse}
use Rattle.shared_reads.proofs.hiring.hired.Given as goal

abbrev pub invariant-loop-desk : goal.invariant-loop-desk
invariant-loop-desk g l = record {
  number : length l.workers.items + length l.desks.items ≡ length l.fn.desks.items;
  rooms : All HasRoom l.desks.items;
  idle : All IsIdle l.workers.items;
  readers : l.readers.items ++ reverse (map (λ w. w.reader) l.workers.items) ≡ l.fn.readers.items;
  room : vec_len l.workers + vec_len l.desks ≤ vec_capacity l.workers;
  back : vec_len l.readers + vec_len l.workers ≤ vec_capacity l.readers;
}

abbrev pub decreases-loop-desk : goal.decreases-loop-desk
decreases-loop-desk g l = vec_len l.desks
