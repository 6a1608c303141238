use Rattle.post_board.proofs.Prelude.{◌≡◌, ℕ, ◌+◌, ◌∙◌, refl, sym, ap, subst, arith, List, [], ◌∷◌, ◌++◌, length, length-append, Some, All, All-nil, All-cons}
use Rattle.post_board.proofs.Prelude.{All-append, each_pushed, SeatState, IsUnread, unused, BoardSeat}
use Rattle.post_board.specs.BoardSeats.{IsSeat, shown_by}
use Rattle.post_board.specs.Fresh.{fresh as fresh_shown}
use Rattle.post_board.proofs.boards.Board.deal_all.Goals as goal

pub loop-number-preserved : goal.loop-number-preserved
loop-number-preserved c =
    let inv = c.loop-number.invariant in
    let D = c.deal_step-seat.ensures.first in
    let xs : List BoardSeat = c.loop-number.seats.items in
    let x : BoardSeat = c.in_ok-fresh.field-0 in
    let n : ℕ = c.args.self.now.n in
    let items : c.push.new.self.items ≡ xs ++ x ∷ [] = c.in_ok-push.ensures.items in
    let long : length c.push.new.self.items ≡ length xs + 1 = ap length items ∙ length-append xs (x ∷ []) in
    let count : length xs + 1 ≡ c.loop-number.number = inv.count in
    let Is : ℕ → BoardSeat → Type 0 = λ k y. IsSeat c.args.self.now y × (shown_by y ≡ fresh_shown n (k + 1) (Some (unused n))) in
    record {
      table = D.0 ∙ inv.table;
      size = refl;
      slots = ap (λ (m : SeatState). m.1) D.1 ∙ inv.slots;
      own = ap (λ (m : SeatState). m.0.own) D.1 ∙ inv.own;
      live = ap (λ (m : SeatState). m.0.live) D.1 ∙ inv.live;
      alone = ap (λ (m : SeatState). m.0.kept) D.1 ∙ inv.alone;
      made = ap (λ (m : SeatState). m.0.made) D.1 ∙ ap (λ (k : ℕ). k + 1) inv.made;
      count = omega arith;
      each = λ k d h. each_pushed Is xs c.push.new.self.items x items
          (c.in_ok-fresh.ensures.seat, c.in_ok-fresh.ensures.shown ∙ ap (λ (j : ℕ). fresh_shown n j (Some (unused n))) (omega arith))
          (λ j e lt. inv.each j e (omega arith)) k d (omega arith);
      unread = subst (λ (ys : List BoardSeat). All IsUnread ys) (sym items)
          (All-append IsUnread xs (x ∷ []) inv.unread (All-cons IsUnread x [] c.in_ok-fresh.ensures.unread (All-nil IsUnread)));
    }
