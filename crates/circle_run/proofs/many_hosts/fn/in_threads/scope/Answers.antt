use Rattle.circle_run.proofs.Prelude.{Bor, Board, BoardSeat, SumTree, SumSeat}
use Rattle.post_board.specs.BoardSeats.{IsSeat as IsBoardSeat, shown_by as board_shown}
use Rattle.sum_tree.specs.TreeSeats.{IsSeat as IsSumSeat, shown_by as sum_shown}
use Rattle.circle_run.proofs.Joined.{placed_as, done_as, ok_both}
use Rattle.circle_run.proofs.many_hosts.fn.in_threads.scope.Goals as goal

pub run_all-requires-clause-ready : goal.run_all-requires-clause-ready
run_all-requires-clause-ready g c κs within =
    λ k d h. placed_as g.J.Job.log g.J.Job.plain board_shown IsBoardSeat sum_shown IsSumSeat
    (λ (b : Bor Board) (s : BoardSeat). IsBoardSeat b.now s) (λ (t : Bor SumTree) (s : SumSeat). IsSumSeat t.now s) _ _ _ _ _ _ (λ s x. x)
    (λ t x. x) (c.requires.ready k d h)

pub returns : goal.returns
returns g c = ok_both c.run_all.result c.run_all.ensures.done c.run_all.ensures.numbers
    (λ v done numbers. record {
      done = done_as g.J.Job.log g.J.Job.plain board_shown (λ (b : Bor Board) (s : BoardSeat). IsBoardSeat b.now s) sum_shown
          (λ (t : Bor SumTree) (s : SumSeat). IsSumSeat t.now s) IsBoardSeat IsSumSeat _ _ _ _ _ _ (λ s x. x) (λ t x. x) done;
      numbers = numbers;
    })
