use Rattle.circle_run.proofs.Prelude.{◌≡◌}
use Rattle.circle_run.proofs.parts.queues_of.Given as goal

abbrev pub invariant-loop-batch : goal.invariant-loop-batch
invariant-loop-batch l = l.queues.items ≡ l.yielded
