use Rattle.circle_run.proofs.Prelude.{◌≡◌, ◌≤◌, ◌++◌, length, vec_capacity, into_iter_items, into_iter_len}
use Rattle.circle_run.proofs.pools.add_all.Given as goal

abbrev pub invariant-loop-x : goal.invariant-loop-x
invariant-loop-x g l = record {
  len : into_iter_len l.x-iterator ≡ length (into_iter_items l.x-iterator);
  items : l.list.items ++ into_iter_items l.x-iterator ≡ l.fn.list.items ++ l.fn.more.items;
  room : vec_capacity l.fn.list ≤ vec_capacity l.list;
}
