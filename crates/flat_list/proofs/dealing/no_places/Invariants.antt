use Rattle.flat_list.proofs.Prelude.{◌≡◌, map, [], range_with_len, places_at}
use Rattle.flat_list.proofs.dealing.no_places.Given as goal

abbrev pub invariant-loop : goal.invariant-loop
invariant-loop l = map (λ places. places.items) l.levels.items ≡ map (λ k. places_at k []) (range_with_len 0 l.counter)
