use Rattle.compare_report.proofs.Prelude.{◌≡◌, ◌-◌, ◌≤◌, length, take, paths}
use Rattle.compare_report.proofs.picking.paths_of.Given as goal

-- the paths of the entries that were passed
abbrev pub invariant-loop-cursor : goal.invariant-loop-cursor
invariant-loop-cursor l = record {
  of_list : l.cursor.0 ≡ l.list;
  inside : l.cursor.1 ≤ length l.list;
  so_far : l.all.items ≡ paths (take l.cursor.1 l.list);
}

abbrev pub decreases-loop-cursor : goal.decreases-loop-cursor
decreases-loop-cursor l = length l.list - l.cursor.1
