use Rattle.sum_tree.proofs.Prelude.{◌≡◌, map, range_with_len}
use Rattle.sum_tree.specs.Plain.{fresh}
use Rattle.sum_tree.proofs.plain.PlainSums.make.Given as goal

abbrev pub invariant-loop-number : goal.invariant-loop-number
invariant-loop-number l = l.seats.items ≡ map (fresh l.n l.width) (range_with_len 0 l.number)
