use Rattle.tree_sync.proofs.Prelude.{◌≡◌, ◌-◌, ◌≤◌, ◌&&◌, false, length, take, list_any, pointwise}
use Rattle.std.specs.Prelude.{nat_eq, is_some}
use Rattle.tree_sync.proofs.dividing.is_there.Given as goal

-- none of the entries that were passed is the top's
abbrev pub invariant-loop-cursor : goal.invariant-loop-cursor
invariant-loop-cursor l = record {
  of_list : l.cursor.0 ≡ l.list;
  inside : l.cursor.1 ≤ length l.list;
  none : list_any (λ e. pointwise nat_eq e.path l.top && is_some e.stat) (take l.cursor.1 l.list) ≡ false;
}

abbrev pub decreases-loop-cursor : goal.decreases-loop-cursor
decreases-loop-cursor l = length l.list - l.cursor.1
