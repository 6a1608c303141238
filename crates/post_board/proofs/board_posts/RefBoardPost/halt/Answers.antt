use Rattle.post_board.proofs.Prelude.{◌≡◌, ℕ, ◌+◌, sym, ap, refl, Step, SeatState}
use Rattle.post_board.proofs.CallLemmas.{reading, one_more}
use Rattle.post_board.proofs.board_posts.RefBoardPost.halt.Goals as goal

pub returns-clause-reads : goal.returns-clause-reads
returns-clause-reads c =
    let after = c.halt_step.ensures.after in
    one_more _ _ (Step (c.args.seat.now.seat.me.0.own.n + 1) (λ w. Unit {0}) (λ w. w ≡ 1)) (reading (c.args.self.now.now.n + 1) after.0 1)
    (ap (λ (k : ℕ). k + 1) (sym c.requires.seat.sized), tt, refl) (ap (λ (m : SeatState). m.0.own.readings) after.1)
