use Rattle.flat_list.proofs.Prelude.{◌≡◌, ◌-◌, ◌≤◌, length, take, level_count}
use Rattle.flat_list.proofs.dealing.level_count.Given as goal

-- the levels of the entries that were passed
abbrev pub invariant-loop-cursor : goal.invariant-loop-cursor
invariant-loop-cursor l = record {
  of_list : l.cursor.0 ≡ l.list;
  inside : l.cursor.1 ≤ length l.list;
  counted : l.count ≡ level_count (take l.cursor.1 l.list);
}

abbrev pub decreases-loop-cursor : goal.decreases-loop-cursor
decreases-loop-cursor l = length l.list - l.cursor.1
