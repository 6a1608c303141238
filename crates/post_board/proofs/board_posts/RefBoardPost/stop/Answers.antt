use Rattle.post_board.proofs.Prelude.{◌≡◌, ℕ, ◌+◌, ◌^◌, sym, ap, refl, bit_or, SeatState}
use Rattle.post_board.proofs.CallLemmas.{reading, one_more}
use Rattle.post_board.proofs.board_posts.RefBoardPost.stop.Goals as goal

pub returns-clause-reads : goal.returns-clause-reads
returns-clause-reads c =
    let after = c.stop_step.ensures.after in
    let v = c.args.seat.now.seat.me.0.own in
    one_more _ _ (λ x. (x.word ≡ v.n + 2) × (x.left ≡ bit_or x.found (2 ^ v.number)))
    (reading (c.args.self.now.now.n + 2) after.0 (bit_or after.0 (2 ^ v.number)))
    (ap (λ (k : ℕ). k + 2) (sym c.requires.seat.sized), refl) (ap (λ (m : SeatState). m.0.own.readings) after.1)
