use Rattle.find_tests.proofs.Prelude.{◌≡◌, ◌++◌, length, chars, signs_of, pieces_of, NoneCloses}
use Rattle.find_tests.proofs.pieces.pieces_of.Given as goal

-- the pieces so far and those still to come, and what is known of brackets
abbrev pub invariant-loop-sign : goal.invariant-loop-sign
invariant-loop-sign l = record {
  so_far : l.pieces.items ++ pieces_of l.signs ≡ pieces_of (signs_of (chars l.pattern));
  closing : NoneCloses l.may_close 2 l.signs;
}

abbrev pub decreases-loop-sign : goal.decreases-loop-sign
decreases-loop-sign l = length l.signs
