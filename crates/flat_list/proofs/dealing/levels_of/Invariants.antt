use Rattle.flat_list.proofs.Prelude.{◌≡◌, map, take, range_with_len, level_count, places_at}
use Rattle.flat_list.proofs.dealing.levels_of.Given as goal

abbrev pub invariant-loop-at : goal.invariant-loop-at
invariant-loop-at l = record {
  here : l.cursor ≡ (l.list, l.at);
  listed : map (λ places. places.items) l.levels.items ≡ map (λ k. places_at k (take l.at l.list)) (range_with_len 0 (level_count l.list));
}
