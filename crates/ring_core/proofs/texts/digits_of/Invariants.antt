use Rattle.ring_core.proofs.Prelude.{◌≡◌, ◌+◌, ◌<◌, ◌≤◌, ◌++◌, length, drop, decimal}
use Rattle.ring_core.proofs.texts.digits_of.Given as goal

abbrev pub invariant-loop-left : goal.invariant-loop-left
invariant-loop-left l = record {
  room : length (decimal l.left) ≤ l.at;
  sized : length l.digits ≡ 21;
  inside : l.at < 21;
  rest : decimal l.left ++ drop (l.at + 1) l.digits ≡ decimal l.value;
}

abbrev pub decreases-loop-left : goal.decreases-loop-left
decreases-loop-left l = l.left
