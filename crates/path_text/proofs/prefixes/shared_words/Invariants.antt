use Rattle.path_text.proofs.Prelude.{◌≡◌, ◌≤◌, ◌-◌, take, min, length}
use Rattle.path_text.proofs.prefixes.shared_words.Given as goal

-- the words so far are the same
abbrev pub invariant-loop-at : goal.invariant-loop-at
invariant-loop-at l = record {
  inside : l.at ≤ min (length l.a) (length l.b);
  same : take l.at l.a ≡ take l.at l.b;
}

abbrev pub decreases-loop-at : goal.decreases-loop-at
decreases-loop-at l = length l.a - l.at
