use Rattle.std.proofs.Common.{◌≡◌, ◌≤◌, take, drop}
use Rattle.std.specs.VecDeque.{deque_len, deque_capacity}
use Rattle.rank_queue.proofs.queues.oldest.Given as goal

abbrev pub invariant-loop-i : goal.invariant-loop-i
invariant-loop-i l = record {
  given : l.batch.items ≡ take l.i l.fn.queue.items;
  rest : l.queue.items ≡ drop l.i l.fn.queue.items;
  room : l.k ≤ deque_capacity l.batch;
  taken : deque_len l.batch ≡ l.i;
}
