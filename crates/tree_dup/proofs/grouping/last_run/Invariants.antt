use Rattle.tree_dup.proofs.Prelude.{◌≤◌}
use Rattle.tree_dup.proofs.Ran.{AreFrom}
use Rattle.tree_dup.proofs.grouping.last_run.Given as goal

abbrev pub invariant-loop-start : goal.invariant-loop-start
invariant-loop-start l = record { up_to : l.start ≤ l.last; run : AreFrom l.files l.start l.last }

abbrev pub decreases-loop-start : goal.decreases-loop-start
decreases-loop-start l = l.start
