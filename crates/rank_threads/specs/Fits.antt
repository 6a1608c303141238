-- The facts of a rank before its first turn in a thread of its own. Our own.
use Rattle.std.specs.Prelude.{◌≡◌, map, false, None}
use Rattle.circle_run.specs.Hosts.{Placed}
use Rattle.post_board.specs.BoardSeats.{IsSeat as IsBoardSeat, shown_by as board_shown}
use Rattle.sum_tree.specs.TreeSeats.{IsSeat as IsSumSeat, shown_by as sums_shown}
use Rattle.rank_threads.specs.declared.workers.Worker.{Worker}

-- the rank may have its next turn, and its further seat counts
pub record Fits (w : Worker) : Type 0 where
  pub placed : Placed (λ s. map (λ step. (step.item, step.pushed.items)) s.steps.items) board_shown (λ b s. IsBoardSeat b.now s) sums_shown
      (λ t s. IsSumSeat t.now s) false w.rank w.board w.sums
  pub last : IsSumSeat w.lasts.now w.last
  pub counting : (sums_shown w.last).answer ≡ None
