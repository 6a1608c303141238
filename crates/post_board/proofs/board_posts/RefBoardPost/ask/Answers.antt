use Rattle.post_board.proofs.Prelude.{ℕ, ◌+◌, sym, ap, Is, Step, resting, asking, word_of, SeatState}
use Rattle.post_board.proofs.WordLemmas.{sign_of_word}
use Rattle.post_board.proofs.CallLemmas.{reading, one_more}
use Rattle.post_board.proofs.board_posts.RefBoardPost.ask.Goals as goal

pub returns-clause-reads : goal.returns-clause-reads
returns-clause-reads c =
    let after = c.ask_step.ensures.after in
    one_more _ _ (Step (c.args.seat.now.seat.me.0.own.number + 1) (Is resting) (Is (asking c.args.victim)))
    (reading (c.args.seat.now.number + 1) after.0 (word_of (asking c.args.victim)))
    (ap (λ (k : ℕ). k + 1) (sym c.requires.seat.number), after.1, sign_of_word (asking c.args.victim)) (ap (λ (m : SeatState). m.0.own.readings) after.2)
