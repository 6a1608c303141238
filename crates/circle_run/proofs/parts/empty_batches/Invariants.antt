use Rattle.circle_run.proofs.Prelude.{◌≡◌, ◌-◌, ◌≤◌, [], length, replicate}
use Rattle.circle_run.proofs.parts.empty_batches.Given as goal

abbrev pub invariant-loop-alloc : goal.invariant-loop-alloc
invariant-loop-alloc l = record { few : length l.batches.items ≤ l.count; empty : l.batches.items ≡ replicate (length l.batches.items) [] }

abbrev pub decreases-loop-alloc : goal.decreases-loop-alloc
decreases-loop-alloc l = l.count - length l.batches.items
