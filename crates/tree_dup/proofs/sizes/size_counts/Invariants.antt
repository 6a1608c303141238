use Rattle.tree_dup.proofs.Prelude.{◌≡◌, ◌-◌, ◌≤◌, length, take, AreCounts}
use Rattle.tree_dup.proofs.sizes.size_counts.Given as goal

abbrev pub invariant-loop-cursor : goal.invariant-loop-cursor
invariant-loop-cursor l = record {
  of_list : l.cursor.0 ≡ l.list;
  inside : l.cursor.1 ≤ length l.list;
  counts : AreCounts (take l.cursor.1 l.list) l.counts;
}

abbrev pub decreases-loop-cursor : goal.decreases-loop-cursor
decreases-loop-cursor l = length l.list - l.cursor.1
