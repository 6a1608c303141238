use Rattle.post_board.proofs.Prelude.{ℕ, ◌-◌, ◌∙◌, sym, ap, White, At, word_of_token, SeatState}
use Rattle.post_board.proofs.CallLemmas.{ring_moved}
use Rattle.post_board.proofs.board_posts.RefBoardPost.restart.Goals as goal

pub returns-clause-reads : goal.returns-clause-reads
returns-clause-reads c =
    let after = c.restart_step.ensures.after in
    ring_moved _ _ c.args.seat.now.seat.me.0.own 0 after.0 c.word_at-new.result c.in-Some.token
    (At (c.args.seat.now.seat.me.0.own.n - 1) White) c.requires.first (c.requires.seat.here ∙ c.in-Some.is) after.1
    (c.word_at-new.ensures ∙ ap (λ (k : ℕ). word_of_token (At (k - 1) White)) (c.requires.seat.n ∙ sym c.requires.seat.sized))
    (ap (λ (m : SeatState). m.0.own.readings) after.2)
