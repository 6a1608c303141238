use Rattle.find_tests.proofs.Prelude.{◌≤◌, length, Utf8, shadow, chars}
use Rattle.find_tests.proofs.Matched.{Follows}
use Rattle.find_tests.proofs.matching.front_of.Given as goal

abbrev pub invariant-loop-piece : goal.invariant-loop-piece
invariant-loop-piece l = record {
  text : shadow (Utf8 l.rest);
  follows : Follows l.pieces l.left (chars l.text) (chars l.rest);
  fewer : length l.left ≤ length l.pieces;
  shorter : length l.rest ≤ length l.text;
}

abbrev pub decreases-loop-piece : goal.decreases-loop-piece
decreases-loop-piece l = length l.left
