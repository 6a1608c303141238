use Rattle.post_board.proofs.Prelude.{◌≡◌, ℕ, ◌-◌, ◌∙◌, sym, ap, Some, darker, Colour, At, mixed, word_of_token, SeatState, shown_known}
use Rattle.post_board.proofs.CallLemmas.{token_here, ring_moved}
use Rattle.post_board.proofs.board_posts.RefBoardPost.pass.Goals as goal

pub returns-clause-reads : goal.returns-clause-reads
returns-clause-reads c =
    let after = c.pass_step.ensures.after in
    let v = c.args.seat.now.seat.me.0.own in
    let here : v.here ≡ Some c.in-Some.token = c.requires.seat.here ∙ c.in-Some.is in
    ring_moved _ _ v c.args.seat.now.number after.0 c.word_at-new.result c.in-Some.token
    (At (v.number - 1) (mixed (shown_known v))) c.requires.seat.number here after.1
    (c.word_at-new.ensures ∙ ap (λ (k : Colour). word_of_token (At (c.args.seat.now.number - 1) k))
    (c.darker.ensures ∙ ap (λ (k : Colour). darker k c.in-Some.token) (sym c.requires.seat.colour)
    ∙ ap (darker v.colour) (sym (token_here v c.in-Some.token here)))
    ∙ ap (λ (k : ℕ). word_of_token (At (k - 1) (mixed (shown_known v)))) (sym c.requires.seat.number)) (ap (λ (m : SeatState). m.0.own.readings) after.2)
