use Rattle.level_work.proofs.Prelude.{◌≡◌, ◌+◌, ◌≤◌, ◌++◌, map, length, vec_len, vec_capacity, into_iter_items, into_iter_len}
use Rattle.level_work.proofs.hiring.dismissed.Given as goal

abbrev pub invariant-loop-lot : goal.invariant-loop-lot
invariant-loop-lot g l = record {
  actors : map (λ lot. lot.actor) l.fn.lots.items ≡ l.actors.items ++ map (λ lot. lot.actor) (into_iter_items l.lot-iterator);
  len : into_iter_len l.lot-iterator ≡ length (into_iter_items l.lot-iterator);
  room : vec_len l.actors + into_iter_len l.lot-iterator ≤ vec_capacity l.actors;
}
