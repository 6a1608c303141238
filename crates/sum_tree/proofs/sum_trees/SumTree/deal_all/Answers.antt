use Rattle.sum_tree.proofs.Prelude.{◌≡◌, ℕ, ◌+◌, ◌∙◌, refl, sym, ap, subst, arith, List, [], ◌∷◌, ◌++◌, length, length-append, All, All-nil, All-cons}
use Rattle.sum_tree.proofs.Prelude.{All-append, each_pushed, SeatState, IsSeat, IsUnread, shown_by, SumSeat}
use Rattle.sum_tree.specs.Plain.{fresh as fresh_shown}
use Rattle.sum_tree.proofs.sum_trees.SumTree.deal_all.Goals as goal

pub loop-number-preserved : goal.loop-number-preserved
loop-number-preserved c =
    let inv = c.loop-number.invariant in
    let D = c.deal_step-seat.ensures.first in
    let xs : List SumSeat = c.loop-number.seats.items in
    let x : SumSeat = c.fresh.result in
    let n : ℕ = c.args.self.now.n in
    let w : ℕ = c.args.self.now.width in
    let items : c.push.new.self.items ≡ xs ++ x ∷ [] = c.in_ok-push.ensures.items in
    let long : length c.push.new.self.items ≡ length xs + 1 = ap length items ∙ length-append xs (x ∷ []) in
    let count : length xs + 1 ≡ c.loop-number.number = inv.count in
    let Is : ℕ → SumSeat → Type 0 = λ k y. IsSeat c.args.self.now y × (shown_by y ≡ fresh_shown n w (k + 1)) in
    record {
      table = D.0 ∙ inv.table;
      size = refl;
      slots = ap (λ (m : SeatState). m.1) D.1 ∙ inv.slots;
      own = ap (λ (m : SeatState). m.0.own) D.1 ∙ inv.own;
      live = ap (λ (m : SeatState). m.0.live) D.1 ∙ inv.live;
      alone = ap (λ (m : SeatState). m.0.kept) D.1 ∙ inv.alone;
      made = ap (λ (m : SeatState). m.0.made) D.1 ∙ ap (λ (k : ℕ). k + 1) inv.made;
      count = omega arith;
      each = λ k d h. each_pushed Is xs c.push.new.self.items x items
          (c.fresh.ensures.seat, c.fresh.ensures.shown ∙ ap (λ (j : ℕ). fresh_shown n w j) (omega arith))
          (λ j e lt. inv.each j e (omega arith)) k d (omega arith);
      unread = subst (λ (ys : List SumSeat). All IsUnread ys) (sym items)
          (All-append IsUnread xs (x ∷ []) inv.unread (All-cons IsUnread x [] c.fresh.ensures.unread (All-nil IsUnread)));
    }
