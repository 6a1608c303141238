use Rattle.flat_list.proofs.Prelude.{◌≡◌, map, [], range_with_len, dealt}
use Rattle.flat_list.proofs.dealing.no_entries.Given as goal

abbrev pub invariant-loop : goal.invariant-loop
invariant-loop l = l.pieces.items ≡ map (λ j. dealt l.n j []) (range_with_len 0 l.counter)
