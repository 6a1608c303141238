use Rattle.post_board.proofs.Prelude.{◌≡◌, ◌≢◌, ℕ, ◌+◌, ◌∙◌, ◌<◌, refl, sym, ap, subst, arith, true, false, append_assoc, map, length, get_or, set}
use Rattle.post_board.proofs.Prelude.{get_or-set_other, length-set, length-append, sum_by, deque_capacity, deque_len, ◌≤◌, List, [], ◌∷◌, ◌++◌, Some, None}
use Rattle.post_board.proofs.Prelude.{asking, serving, word_of, Reading, SeatState, NoneAsked, knows, after_taking, dite, ℕ_discrete, Contains, map-append}
use Rattle.post_board.proofs.Prelude.{Contains-push, Contains-append_left, turned, Parcel, serves, own_by, one_if, Known, View}
use Rattle.post_board.proofs.WordLemmas.{sign_of_word}
use Rattle.post_board.proofs.CallLemmas.{reading, served_more, room_for, Looked, looked_more, looked_self}
use Rattle.post_board.proofs.board_posts.RefBoardPost.next_request.Goals as goal
use Rattle.post_board.proofs.board_posts.RefBoardPost.next_request.Goals.{else-r-seat-via-then-r-seat+else-look_at, else-r-seat-via-else-r-seat}

pub loop-r-preserved : goal.loop-r-preserved
loop-r-preserved c =
    let inv = c.loop-r.invariant in
    elim c.else-r-seat.branch [
      | else-r-seat-via-then-r-seat+else-look_at w ↦
          (let miss = w.look_at.ensures.miss w.if-look_at.false in
          let ne : c.loop-r.r ≢ c.args.seat.now.number = (λ e. w.if-r-seat.true (e ∙ sym inv.same.0)) in
          let other : miss.0 ≢ word_of (asking c.args.seat.now.number) = (λ e. miss.1 (e ∙ ap (λ (k : ℕ). word_of (asking k)) (sym inv.same.0))) in
          record {
            table = rw w.seat-is (w.look_at.ensures.table ∙ inv.table);
            same = rw w.seat-is inv.same;
            held = rw w.seat-is inv.held;
            looked = rw w.seat-is (looked_more c.args.seat.now.number c.loop-r.r miss.0 c.args.seat.now.seat.me c.loop-r.seat.seat.me w.look_at.new.seat.me
                ne other miss.2 inv.looked);
          })
      | else-r-seat-via-else-r-seat w ↦
          record {
            table = rw w.seat-is inv.table;
            same = rw w.seat-is inv.same;
            held = rw w.seat-is inv.held;
            looked = rw w.seat-is (looked_self c.args.seat.now.number c.loop-r.r c.args.seat.now.seat.me c.loop-r.seat.seat.me
                (w.if-r-seat.false ∙ inv.same.0) inv.looked);
          }
    ]

pub returns-then-look_at-clause-reads : goal.returns-then-look_at-clause-reads
returns-then-look_at-clause-reads c =
    let inv = c.loop-r.invariant in
    let L : Looked c.args.seat.now.number c.loop-r.r c.args.seat.now.seat.me c.loop-r.seat.seat.me = inv.looked in
    let v = c.args.seat.now.seat.me.0.own in
    let hit = c.look_at.ensures.hit c.if-look_at.true in
    let me : c.loop-r.seat.number ≡ v.number = inv.same.0 ∙ sym c.requires.seat.number in
    let x : Reading = reading (c.loop-r.r + 1) (word_of (asking c.loop-r.seat.number)) (word_of (serving v.number)) in (
      L.steps ++ x ∷ [],
      (
        L.steps,
        x,
        subst (λ (k : ℕ). NoneAsked k c.loop-r.r L.steps) (sym c.requires.seat.number) L.none,
        (refl, sign_of_word (asking c.loop-r.seat.number) ∙ ap asking me, sign_of_word (serving v.number)),
        refl,
      ),
      ap (λ (m : SeatState). Some m.0.own.readings) c.turn.ensures.2
          ∙ ap (λ (m : SeatState). Some m.0.own.readings) hit.1
          ∙ ap (λ (m : SeatState). Some (m.0.own.readings ++ reading (c.loop-r.r + 1) (word_of (asking c.loop-r.seat.number))
          (word_of (serving m.0.own.number)) ∷ [])) L.is
          ∙ ap Some (append_assoc v.readings L.steps (x ∷ [])),
    )

abbrev empty_slot : ℕ → ℕ × Parcel
empty_slot r = (r, None)

-- what it serves, with one rank more
more_held : (v : Known) (r : ℕ) (xs : List ℕ) → r < length v.serves → ((k : ℕ) → serves v k ≡ true → Contains xs k) → (k : ℕ)
    → get_or (set v.serves r true) k false ≡ true → Contains (xs ++ r ∷ []) k
more_held v r xs h holds k e = dite (ℕ_discrete k r)
    (λ same. subst (Contains (xs ++ r ∷ [])) (sym same) (Contains-push xs r))
    (λ other. Contains-append_left xs (r ∷ []) k (holds k (sym (get_or-set_other v.serves r k true false other) ∙ e)))

pub returns-then-look_at-clause-mine : goal.returns-then-look_at-clause-mine
returns-then-look_at-clause-mine c =
    let inv = c.loop-r.invariant in
    let L : Looked c.args.seat.now.number c.loop-r.r c.args.seat.now.seat.me c.loop-r.seat.seat.me = inv.looked in
    let S = c.requires.seat in
    let v = c.args.seat.now.seat.me.0.own in
    let hit = c.look_at.ensures.hit c.if-look_at.true in
    let me : c.turn.new.self.me.0 ≡ knows c.args.seat.now.seat.me.0
    (after_taking (record v { readings = v.readings ++ L.steps }) c.loop-r.r (c.loop-r.r + 1) (word_of (asking c.loop-r.seat.number))) =
    ap (λ (m : SeatState). m.0) c.turn.ensures.2 ∙ ap (λ (m : SeatState). m.0) hit.1
    ∙ ap (λ (m : SeatState). knows m.0 (after_taking m.0.own c.loop-r.r (c.loop-r.r + 1) (word_of (asking c.loop-r.seat.number)))) L.is in
    let below : c.loop-r.r < length v.serves = (let a = S.wide in let b : c.loop-r.r < c.args.seat.now.n = c.loop-r-test.true in let d = S.n in omega arith) in
    let not_yet : get_or v.serves c.loop-r.r false ≡ false = ap (λ (m : SeatState). get_or m.0.own.serves c.loop-r.r false) (sym L.is) ∙ hit.0 in
    let items : c.push_back.new.self.items ≡ c.args.seat.now.held.items ++ c.loop-r.r ∷ [] = c.in_default.ensures.items
    ∙ ap (λ h. h.items ++ c.loop-r.r ∷ []) inv.held in
    record {
      table = c.turn.ensures.0 ∙ c.look_at.ensures.table ∙ inv.table ∙ S.table;
      number = ap (λ (x : View). x.own.number) me ∙ S.number ∙ sym inv.same.0;
      sized = ap (λ (x : View). x.own.n) me ∙ S.sized;
      n = inv.same.1 ∙ S.n;
      inside = subst (λ (k : ℕ). k < c.args.self.now.now.n) (sym inv.same.0) S.inside;
      live = ap (λ (x : View). x.live) me ∙ S.live;
      alone = ap (λ (x : View). x.kept) me ∙ S.alone;
      wide = ap (λ (x : View). length x.own.serves) me ∙ length-set v.serves c.loop-r.r true ∙ S.wide;
      colour = ap (λ (x : View). x.own.colour) me ∙ S.colour ∙ sym inv.same.2;
      here = ap (λ (x : View). x.own.here) me ∙ S.here ∙ sym inv.same.3;
      own = ap (λ (x : View). x.own.own) me ∙ S.own ∙ ap own_by (sym inv.same.4);
      ended = ap (λ (x : View). x.own.ended) me ∙ S.ended ∙ sym inv.same.5;
      room = (let a = S.room in let b : deque_capacity c.loop-r.seat.held ≤ deque_capacity c.push_back.new.self = c.in_default.ensures.capacity in
          let d : deque_capacity c.loop-r.seat.held ≡ deque_capacity c.args.seat.now.held = ap (λ h. deque_capacity h) inv.held in omega arith);
      count = (let a = S.count in let b : length c.push_back.new.self.items ≡ length c.args.seat.now.held.items + 1 = ap length items
          ∙ length-append c.args.seat.now.held.items (c.loop-r.r ∷ []) in
          let d = served_more v.serves c.loop-r.r below not_yet in
          let e : sum_by one_if c.turn.new.self.me.0.own.serves ≡ sum_by one_if (set v.serves c.loop-r.r true) =
          ap (λ (x : View). sum_by one_if x.own.serves) me in omega arith);
      held = ap (λ (m : SeatState). m.1) c.turn.ensures.2 ∙ ap (λ (m : SeatState). turned m.1) hit.1
          ∙ ap (λ (m : SeatState). m.1 ++ (c.loop-r.r, None) ∷ []) L.is ∙ ap (λ xs. xs ++ (c.loop-r.r, None) ∷ []) S.held
          ∙ sym (map-append empty_slot c.args.seat.now.held.items (c.loop-r.r ∷ [])) ∙ ap (map empty_slot) (sym items);
      holds = λ r e. subst (λ xs. Contains xs r) (sym items)
          (more_held v c.loop-r.r c.args.seat.now.held.items (let a = S.wide in let b : c.loop-r.r < c.args.seat.now.n = c.loop-r-test.true in let d = S.n in
          omega arith) S.holds r (ap (λ (x : View). get_or x.own.serves r false) (sym me) ∙ e));
    }

pub unreachable-requires : goal.unreachable-requires
unreachable-requires c =
    let inv = c.loop-r.invariant in
    let L : Looked c.args.seat.now.number c.loop-r.r c.args.seat.now.seat.me c.loop-r.seat.seat.me = inv.looked in
    let S = c.requires.seat in
    let v = c.args.seat.now.seat.me.0.own in
    let hit = c.look_at.ensures.hit c.if-look_at.true in
    let below : c.loop-r.r < length v.serves = (let a = S.wide in let b : c.loop-r.r < c.args.seat.now.n = c.loop-r-test.true in let d = S.n in omega arith) in
    let not_yet : get_or v.serves c.loop-r.r false ≡ false = ap (λ (m : SeatState). get_or m.0.own.serves c.loop-r.r false) (sym L.is) ∙ hit.0 in
    let some = room_for v.serves c.loop-r.r below not_yet in
    let full : deque_capacity c.loop-r.seat.held ≤ deque_len c.loop-r.seat.held = c.in-Err.ensures.full in
    let same : deque_capacity c.loop-r.seat.held ≡ deque_capacity c.args.seat.now.held = ap (λ h. deque_capacity h) inv.held in
    let long : deque_len c.loop-r.seat.held ≡ deque_len c.args.seat.now.held = ap (λ h. deque_len h) inv.held in
    let a = S.room in let b = S.count in let d = S.wide in
    let is : deque_len c.args.seat.now.held ≡ length c.args.seat.now.held.items = c.args.seat.now.held.ok.0 in
    omega arith
