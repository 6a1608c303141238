use Rattle.post_board.proofs.Prelude.{◌≡◌, sym, ◌∙◌, refl, get_or, eqb-true}
use Rattle.post_board.proofs.AskerLemmas.{none_asks}
use Rattle.post_board.proofs.plain_posts.PlainBoardPost.next_request.Goals as goal

pub returns-then-nobody_asks-clause-told : goal.returns-then-nobody_asks-clause-told
returns-then-nobody_asks-clause-told c =
    let seat = c.args.seat.now in
    let masks = c.args.self.now.askers.masks.items in
    let none : get_or masks seat.number 0 ≡ 0 = eqb-true (get_or masks seat.number 0) 0 (sym c.nobody_asks.ensures ∙ c.if-nobody_asks.true) in
    (none_asks c.args.self.now.ranks.items masks c.args.self.now.token seat c.requires.seat.0.0 c.requires.seat.1 none, refl)
