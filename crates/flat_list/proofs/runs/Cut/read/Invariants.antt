use Rattle.flat_list.proofs.Prelude.{◌≡◌, ◌-◌, ◌≤◌, ◌++◌, length, take, IsPermutation, all_of}
use Rattle.flat_list.proofs.runs.Cut.read.Given as goal

-- what was passed moved to the others
abbrev pub invariant-loop-cursor : goal.invariant-loop-cursor
invariant-loop-cursor l = record {
  of_list : l.cursor.0 ≡ l.log;
  inside : l.cursor.1 ≤ length l.log;
  moved : IsPermutation (all_of l.fn.self ++ take l.cursor.1 l.log) (all_of l.self);
}

abbrev pub decreases-loop-cursor : goal.decreases-loop-cursor
decreases-loop-cursor l = length l.log - l.cursor.1
