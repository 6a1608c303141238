use Rattle.rank_threads.proofs.Prelude.{◌≡◌, None}
use Rattle.sum_tree.specs.TreeSeats.{IsSeat, shown_by}
use Rattle.rank_threads.proofs.workers.sum_of_all.Given as goal

abbrev pub invariant-loop : goal.invariant-loop
invariant-loop g l = record { seat : IsSeat l.sums l.seat; counting : (shown_by l.seat).answer ≡ None }
