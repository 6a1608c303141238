use Rattle.flat_list.proofs.Prelude.{◌≡◌, ◌-◌, ◌≤◌, length, take, CalledAt}
use Rattle.flat_list.proofs.Retained.{Kept}
use Rattle.flat_list.proofs.lists.FlatList.kept.Given as goal

-- what was kept of the entries that were passed
abbrev pub invariant-loop-cursor : goal.invariant-loop-cursor
invariant-loop-cursor g l = record {
  callable : goal.F-IsAlwaysCallable g l.test;
  of_list : l.cursor.0 ≡ l.self;
  inside : l.cursor.1 ≤ length l.self;
  so_far : Kept (CalledAt g.F.FnMut) l.fn.keep l.test (take l.cursor.1 l.self) l.kept;
}

abbrev pub decreases-loop-cursor : goal.decreases-loop-cursor
decreases-loop-cursor g l = length l.self - l.cursor.1
