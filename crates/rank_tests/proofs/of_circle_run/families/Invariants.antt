use Rattle.rank_tests.proofs.Prelude.{◌≡◌, ◌-◌, ◌≤◌, [], length, All}
use Rattle.rank_tests.proofs.of_circle_run.families.Given as goal

abbrev pub invariant-loop-alloc : goal.invariant-loop-alloc
invariant-loop-alloc l = record { few : length l.jobs.items ≤ l.count; unused : All (λ f. f.steps.items ≡ []) l.jobs.items }

abbrev pub decreases-loop-alloc : goal.decreases-loop-alloc
decreases-loop-alloc l = l.count - length l.jobs.items
