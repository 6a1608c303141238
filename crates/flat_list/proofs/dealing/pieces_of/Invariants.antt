use Rattle.flat_list.proofs.Prelude.{◌≡◌, map, take, range_with_len, dealt}
use Rattle.flat_list.proofs.dealing.pieces_of.Given as goal

abbrev pub invariant-loop-at : goal.invariant-loop-at
invariant-loop-at l = record {
  here : l.cursor ≡ (l.list, l.at);
  shared : l.pieces.items ≡ map (λ j. dealt l.n j (take l.at l.list)) (range_with_len 0 l.n);
}
