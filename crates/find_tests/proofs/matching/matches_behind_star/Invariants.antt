use Rattle.find_tests.proofs.Prelude.{◌≡◌, ◌+◌, ◌∷◌, length, Utf8, shadow, chars, matches, AnyText}
use Rattle.find_tests.proofs.matching.matches_behind_star.Given as goal

abbrev pub invariant-loop-behind : goal.invariant-loop-behind
invariant-loop-behind l = record {
  text : shadow (Utf8 l.text);
  same : matches (AnyText ∷ l.pieces) (chars l.text) ≡ matches (AnyText ∷ l.fn.pieces) (chars l.fn.text);
}

abbrev pub decreases-loop-behind : goal.decreases-loop-behind
decreases-loop-behind l = length l.pieces + length l.text
