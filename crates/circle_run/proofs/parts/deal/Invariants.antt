use Rattle.circle_run.proofs.Prelude.{◌≡◌, ◌%◌, map, length, range_with_len, dealt_to}
use Rattle.circle_run.proofs.parts.deal.Given as goal

abbrev pub invariant-loop-path : goal.invariant-loop-path
invariant-loop-path l = record {
  dealt : l.batches.items ≡ map (dealt_to l.ranks l.yielded) (range_with_len 0 l.ranks);
  turn : l.next ≡ length l.yielded % l.ranks;
}
