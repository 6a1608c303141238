use Rattle.tree_remove.proofs.Prelude.{◌≡◌, ◌-◌, ◌≤◌, length, take, items_of}
use Rattle.tree_remove.proofs.items.items_of.Given as goal

-- the items of the entries that were passed
abbrev pub invariant-loop-cursor : goal.invariant-loop-cursor
invariant-loop-cursor l = record {
  of_list : l.cursor.0 ≡ l.list;
  inside : l.cursor.1 ≤ length l.list;
  so_far : l.items.items ≡ items_of (take l.cursor.1 l.list);
}

abbrev pub decreases-loop-cursor : goal.decreases-loop-cursor
decreases-loop-cursor l = length l.list - l.cursor.1
