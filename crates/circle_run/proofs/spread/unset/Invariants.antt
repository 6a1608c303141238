use Rattle.circle_run.proofs.Prelude.{◌≡◌, length}
use Rattle.circle_run.proofs.spread.unset.Given as goal

abbrev pub invariant-loop-number : goal.invariant-loop-number
invariant-loop-number l = length l.flags.items ≡ l.number
