use Rattle.post_board.proofs.Prelude.{◌≡◌, ℕ, ◌∙◌, refl, sym, ap, White, At, Over, Step, token_read, SeatState}
use Rattle.post_board.proofs.WordLemmas.{token_of_word}
use Rattle.post_board.proofs.CallLemmas.{reading, one_more}
use Rattle.post_board.proofs.board_posts.RefBoardPost.conclude.Goals as goal

pub returns-clause-reads : goal.returns-clause-reads
returns-clause-reads c =
    let after = c.conclude_step.ensures.after in
    one_more _ _ (Step 0 (λ w. token_read w ≡ At c.args.seat.now.seat.me.0.own.number White) (λ w. token_read w ≡ Over)) (reading 0 after.0 0)
    (refl, after.1 ∙ ap (λ (k : ℕ). At k White) (sym c.requires.first), token_of_word Over) (ap (λ (m : SeatState). m.0.own.readings) after.2)
