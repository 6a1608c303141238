use Rattle.find_tests.proofs.Prelude.{◌≡◌, ◌++◌, length, before_close, behind_close, has_close, ranges_of, members, behind_members, is_closed}
use Rattle.find_tests.proofs.pieces.read_ranges.Given as goal

-- the members that were read, and that what is left tells the rest
abbrev pub invariant-loop-sign : goal.invariant-loop-sign
invariant-loop-sign l = record {
  ranges : ranges_of (members l.fn.signs) ≡ l.ranges ++ ranges_of (before_close l.signs);
  closed : is_closed l.fn.signs ≡ has_close l.signs;
  behind : behind_members l.fn.signs ≡ behind_close l.signs;
}

abbrev pub decreases-loop-sign : goal.decreases-loop-sign
decreases-loop-sign l = length l.signs
