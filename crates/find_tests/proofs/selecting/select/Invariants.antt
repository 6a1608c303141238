use Rattle.find_tests.proofs.Prelude.{◌≡◌, ◌-◌, ◌≤◌, length, take, filter, is_selected}
use Rattle.find_tests.proofs.selecting.select.Given as goal

-- what was selected of the entries that were passed
abbrev pub invariant-loop-cursor : goal.invariant-loop-cursor
invariant-loop-cursor l = record {
  of_list : l.cursor.0 ≡ l.list;
  inside : l.cursor.1 ≤ length l.list;
  so_far : l.selected ≡ filter (is_selected l.tests l.now) (take l.cursor.1 l.list);
}

abbrev pub decreases-loop-cursor : goal.decreases-loop-cursor
decreases-loop-cursor l = length l.list - l.cursor.1
