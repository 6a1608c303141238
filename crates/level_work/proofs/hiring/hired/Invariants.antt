use Rattle.level_work.proofs.Prelude.{◌≡◌, ◌+◌, ◌≤◌, ◌++◌, [], map, length, vec_len, vec_capacity, into_iter_items, into_iter_len, AtHome}
use Rattle.level_work.proofs.hiring.hired.Given as goal

abbrev pub invariant-loop-actor : goal.invariant-loop-actor
invariant-loop-actor g l = record {
  actors : l.fn.actors.items ≡ map (λ lot. lot.actor) l.lots.items ++ into_iter_items l.actor-iterator;
  home : AtHome l.lots.items;
  gone : l.actors.items ≡ [];
  len : into_iter_len l.actor-iterator ≡ length (into_iter_items l.actor-iterator);
  room : vec_len l.lots + into_iter_len l.actor-iterator ≤ vec_capacity l.lots;
  back : length l.lots.items + into_iter_len l.actor-iterator ≤ vec_capacity l.actors;
}
