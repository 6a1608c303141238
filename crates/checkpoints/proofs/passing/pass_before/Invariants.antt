use Rattle.checkpoints.proofs.Prelude.{◌≡◌, ◌++◌, length, ArePassed}
use Rattle.checkpoints.proofs.passing.pass_before.Given as goal

abbrev pub invariant-loop-entry : goal.invariant-loop-entry
invariant-loop-entry l = record {
  all : l.ahead.0 ++ l.ahead.1 ≡ l.fn.ahead.0 ++ l.fn.ahead.1;
  passed : ArePassed l.ahead.0 l.closed l.path;
}

abbrev pub decreases-loop-entry : goal.decreases-loop-entry
decreases-loop-entry l = length l.ahead.1
