use Rattle.post_board.proofs.Prelude.{◌≡◌, ◌≢◌, ℕ, zero, suc, ◌+◌, ◌-◌, ◌<◌, ◌≤◌, ◌∙◌, refl, sym, ap, subst, arith, List, [], ◌∷◌, ◌++◌, map, length, get_or}
use Rattle.post_board.proofs.Prelude.{drop, length-append, None, Contains, map-append, get_or_append_left, Contains-permutation, turned, Parcel, SeatState}
use Rattle.std.proofs.Common.{take}
use Rattle.post_board.proofs.boards.Board.front_slot.Goals as goal

abbrev empty_slot : ℕ → ℕ × Parcel
empty_slot r = (r, None)

-- the list of slots turns as the list of numbers does
turns : (xs : List ℕ) → turned (map empty_slot xs) ≡ map empty_slot (drop 1 xs ++ take 1 xs)
turns [] = refl
turns (x ∷ xs) = sym (map-append empty_slot xs (x ∷ []))

back_one : (xs : List ℕ) (i : ℕ) → 0 < i → i < length xs → get_or (drop 1 xs ++ take 1 xs) (i - 1) 0 ≡ get_or xs i 0
back_one [] i some h = absurd (omega arith)
back_one (x ∷ xs) zero some h = absurd (omega arith)
back_one (x ∷ xs) (suc j) some h = let e : suc j - 1 ≡ j = omega arith in ap (λ k. get_or (xs ++ x ∷ []) k 0) e
    ∙ get_or_append_left xs (x ∷ []) 0 j (omega arith)

as_long : (xs : List ℕ) → length (drop 1 xs ++ take 1 xs) ≡ length xs
as_long [] = refl
as_long (x ∷ xs) = let e = length-append xs (x ∷ []) in omega arith

headed : (xs : List ℕ) (x : ℕ) → 0 < length xs → get_or xs 0 0 ≡ x → xs ≡ x ∷ drop 1 xs
headed [] x h e = absurd (omega arith)
headed (y ∷ xs) x h e = ap (λ k. k ∷ xs) e

behind : (x : ℕ) (xs : List ℕ) (r : ℕ) → r ≢ x → Contains (x ∷ xs) r → Contains xs r
behind x xs r ne (zero, h, e) = absurd (ne (sym e))
behind x xs r ne (suc j, h, e) = (j, omega arith, e)

pub loop-step-preserved : goal.loop-step-preserved
loop-step-preserved c =
    let inv = c.loop-step.invariant in
    let items = c.rotate_left.ensures.items in
    let xs : List ℕ = c.loop-step.seat.held.items in
    let more : c.loop-step.step < c.place_in-place.result = c.loop-step-test.true in
    let within : c.place_in-place.result - c.loop-step.step < length xs = inv.within in
    let less : c.place_in-place.result - (c.loop-step.step + 1) ≡ c.place_in-place.result - c.loop-step.step - 1 = omega arith in
    record {
      table = c.turn.ensures.0 ∙ inv.table;
      view = ap (λ (m : SeatState). m.0) c.turn.ensures.2 ∙ inv.view;
      slots = ap (λ (m : SeatState). m.1) c.turn.ensures.2 ∙ ap turned inv.slots ∙ turns xs ∙ ap (map empty_slot) (sym items);
      same = inv.same;
      room = c.rotate_left.ensures.capacity ∙ inv.room;
      long = ap length items ∙ as_long xs ∙ inv.long;
      has = λ r h. Contains-permutation _ _ r c.rotate_left.ensures.permutation (inv.has r h);
      within = (let e : length c.rotate_left.new.self.items ≡ length xs = ap length items ∙ as_long xs in omega arith);
      front = ap (λ ys. get_or ys (c.place_in-place.result - (c.loop-step.step + 1)) 0) items ∙ ap (λ k. get_or (drop 1 xs ++ take 1 xs) k 0) less
          ∙ back_one xs (c.place_in-place.result - c.loop-step.step) (omega arith) within ∙ inv.front;
    }

pub returns : goal.returns
returns c =
    let inv = c.loop-step.invariant in
    let rest = c.pop_front.ensures.rest in
    let xs : List ℕ = c.loop-step.seat.held.items in
    let done : c.place_in-place.result ≤ c.loop-step.step = c.loop-step-test.false in
    let none : c.place_in-place.result - c.loop-step.step ≡ 0 = omega arith in
    let within : c.place_in-place.result - c.loop-step.step < length xs = inv.within in
    let head : xs ≡ c.args.to ∷ drop 1 xs = headed xs c.args.to (omega arith) (ap (λ k. get_or xs k 0) (sym none) ∙ inv.front) in
    record {
      fronted = record {
        table = inv.table;
        view = inv.view;
        slots = inv.slots ∙ ap (map empty_slot) head ∙ ap (λ ys. (c.args.to, None) ∷ map empty_slot ys) (sym rest);
        same = inv.same;
        room = c.pop_front.ensures.capacity ∙ inv.room;
        count = (let a = inv.long in let b : length xs ≡ suc (length (drop 1 xs)) = ap length head in
            let d : length c.pop_front.new.self.items ≡ length (drop 1 xs) = ap length rest in omega arith);
        others = λ r ne e. subst (λ ys. Contains ys r) (sym rest)
            (behind c.args.to (drop 1 xs) r ne (subst (λ ys. Contains ys r) head (inv.has r (c.requires.seat.holds r e))));
      };
    }
