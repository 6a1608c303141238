use Rattle.flat_list.proofs.Prelude.{◌≡◌, ◌-◌, ◌≤◌, length, take}
use Rattle.flat_list.proofs.lists.FlatList.copies.Given as goal

-- copies of the entries that were passed
abbrev pub invariant-loop-cursor : goal.invariant-loop-cursor
invariant-loop-cursor l = record {
  of_list : l.cursor.0 ≡ l.self;
  inside : l.cursor.1 ≤ length l.self;
  so_far : l.entries.items ≡ take l.cursor.1 l.self;
}

abbrev pub decreases-loop-cursor : goal.decreases-loop-cursor
decreases-loop-cursor l = length l.self - l.cursor.1
