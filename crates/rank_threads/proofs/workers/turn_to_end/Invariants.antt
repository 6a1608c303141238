use Rattle.rank_threads.proofs.Prelude.{map, false, Placed, IsSeat, shown_by}
use Rattle.sum_tree.specs.TreeSeats.{IsSeat as IsSumSeat, shown_by as sums_shown}
use Rattle.rank_threads.proofs.workers.turn_to_end.Given as goal

abbrev pub invariant-loop : goal.invariant-loop
invariant-loop g l = record {
  placed : Placed (λ s. map (λ step. (step.item, step.pushed.items)) s.steps.items) shown_by (λ b s. IsSeat b s) sums_shown
      (λ t s. IsSumSeat t s) false l.rank l.post l.tree;
}
