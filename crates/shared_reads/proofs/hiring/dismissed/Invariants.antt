use Rattle.shared_reads.proofs.Prelude.{◌≡◌, ◌+◌, ◌≤◌, ◌++◌, map, vec_len, vec_capacity}
use Rattle.std.proofs.Common.{reverse}
use Rattle.shared_reads.proofs.hiring.dismissed.Given as goal

abbrev pub invariant-loop-worker : goal.invariant-loop-worker
invariant-loop-worker g l = record {
  readers : l.readers.items ++ reverse (map (λ w. w.reader) l.workers.items) ≡ l.fn.readers.items ++ reverse (map (λ w. w.reader) l.fn.workers.items);
  kept : l.kept.lists.items ++ reverse (map (λ w. w.found) l.workers.items) ≡ l.fn.kept.lists.items ++ reverse (map (λ w. w.found) l.fn.workers.items);
  room : vec_len l.readers + vec_len l.workers ≤ vec_capacity l.readers;
  kept_room : vec_len l.kept.lists + vec_len l.workers ≤ vec_capacity l.kept.lists;
}

abbrev pub decreases-loop-worker : goal.decreases-loop-worker
decreases-loop-worker g l = vec_len l.workers
