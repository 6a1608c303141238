use Rattle.flat_list.proofs.Prelude.{◌≡◌, ℕ, ◌-◌, ◌<◌, ◌≤◌, length, RisesAt}
use Rattle.flat_list.proofs.lists.FlatList.ascends.Given as goal

-- no entry that was passed, and not the one behind them, comes before the one in front of it
abbrev pub invariant-loop-cursor : goal.invariant-loop-cursor
invariant-loop-cursor l = record {
  list : l.cursor.0 ≡ l.self;
  inside : l.cursor.1 ≤ length l.self;
  rises : (k : ℕ) → k < l.cursor.1 → RisesAt l.self k;
}

abbrev pub decreases-loop-cursor : goal.decreases-loop-cursor
decreases-loop-cursor l = length l.self - l.cursor.1
