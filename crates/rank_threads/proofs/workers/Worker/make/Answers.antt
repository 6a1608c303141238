use Rattle.rank_threads.proofs.Prelude.{◌≡◌, true, false, map, ap, ◌∙◌, SumShown, Rank, ready_at_first}
use Rattle.post_board.specs.BoardSeats.{IsSeat as IsBoardSeat, shown_by as board_shown}
use Rattle.sum_tree.specs.TreeSeats.{IsSeat as IsSumSeat, shown_by as sums_shown}
use Rattle.rank_threads.proofs.workers.Worker.make.Goals as goal

pub returns : goal.returns
returns c = record {
  placed = record {
    ready = ready_at_first (λ s. map (λ step. (step.item, step.pushed.items)) s.steps.items) board_shown
        (λ b s. IsBoardSeat b.now s) sums_shown (λ t s. IsSumSeat t.now s)
        c.args.job c.args.seat c.args.sums_seat _ c.args.options.now c.args.me c.make-rank.result c.args.place.board c.args.place.sums _ c.make-rank.ensures
        (ap (map (λ step. (step.item, step.pushed.items))) c.requires.unused) c.requires.seat.1 c.requires.seat.0 c.requires.sums.1 c.requires.sums.0
        c.requires.inside.0 c.requires.inside.1 c.requires.inside.2;
    over = λ e. (let clash : false ≡ true = e in cc);
    going = λ e. ap (λ t. (sums_shown t).answer) (ap (λ (x : Rank _ _ _). x.sums_seat) c.make-rank.ensures.same)
        ∙ ap (λ (x : SumShown). x.answer) c.requires.sums.1;
  };
  last = c.requires.last.0;
  counting = c.requires.last.1;
}
