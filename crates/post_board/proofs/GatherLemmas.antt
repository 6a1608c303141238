-- Seats that come together, the last one first.
use Rattle.post_board.proofs.Prelude.{◌≡◌, ℕ, ◌+◌, ◌<◌, ◌⊎◌, sym, subst, ap, ◌∙◌, arith, Bool, true, false, List, [], ◌∷◌, ◌++◌, map, None, length}
use Rattle.post_board.proofs.Prelude.{length-append, get_or, All, Contains, get_or-append_seam, get_or_default, nil_from_length, All-nil, All-cons, All-append}
use Rattle.post_board.proofs.Prelude.{Contains-get_or, Contains-permutation, length_permutation, numbered, alone, Brings, Gathered, comes_first, came}
use Rattle.post_board.proofs.Prelude.{comes_next, all_know, first_says, AllDone, AllEven, TableId, both, SeatState, Squares, first_ended, Known, View, Board}
use Rattle.post_board.proofs.Prelude.{BoardSeat}
use Rattle.post_board.specs.BoardSteps.{Halters}
use Rattle.post_board.specs.BoardSeats.{IsSeat, shown_by}
use Rattle.post_board.specs.Calls.{Halters as HaltersAmong}
use Rattle.post_board.proofs.CallLemmas.{serves_none}

abbrev pub IsDone : Known → Type 0
IsDone x = (x.ended ≡ true) ⊎ (x.stopped ≡ true)

-- what is asked of the seat of one rank
abbrev OfRank : Board → ℕ → ℕ → BoardSeat → Type 0
OfRank b n k s = IsSeat b s × (s.seat.me.0.own.number ≡ k) × (s.seat.me.0.own.n ≡ n) × IsDone s.seat.me.0.own
    × ((r : ℕ) → get_or s.seat.me.0.own.serves r false ≡ false)

-- the knowledge of its rank that a seat brings, and whether it saw the end
abbrev pub brings : Brings BoardSeat Known Bool
brings = record {
  knows = λ (s : BoardSeat). s.seat.me.0.own;
  number = λ (s : BoardSeat). s.seat.me.0.own.number;
  says = λ (s : BoardSeat). s.seat.me.0.own.ended;
}

-- these are left, and all others came together in the view v
pub record Together (all left : List BoardSeat) (v : View) (over : Bool) : Type 0 where
  pub gathered : Gathered brings all left (v.own ∷ v.kept) over
  pub done : All IsDone (v.own ∷ v.kept)
  pub size : v.own.n ≡ length all

module _ (b : Board) (all : List BoardSeat) (D : AllDone shown_by (IsSeat b) all) where
  -- each is the seat of a rank
  rank_of : (s : BoardSeat) → Contains all s → (k : ℕ) × (k < length D.ranks) × (get_or D.ranks k s ≡ s) × OfRank b (length all) k s
  rank_of s c =
      let (k, lt, at, of) = numbered (OfRank b (length D.ranks)) D.ranks all D.same (λ j d h. D.by_number j d h) s c in
      let many : length D.ranks ≡ length all = sym (length_permutation D.ranks all D.same) in
      (k, lt, at, subst (λ (n : ℕ). OfRank b n k s) many of)

  seat_at : (left : List BoardSeat) (other : BoardSeat) → length left < length all → get_or all (length left) other ≡ other
      → OfRank b (length all) other.number other
  seat_at left other short at =
      let (k, _, _, of) = rank_of other (length left, short, at) in (of.0, of.0.number, of.2, of.3, of.4)

  holds_none : (other : BoardSeat) → IsSeat b other → ((r : ℕ) → get_or other.seat.me.0.own.serves r false ≡ false) → other.seat.me.1 ≡ []
  holds_none other S none = S.held ∙ ap (map (λ r. (r, None))) (nil_from_length other.held.items (S.count ∙ serves_none other.seat.me.0.own.serves none))

  pub begun : {left : List BoardSeat} (last : BoardSeat) {id : TableId} {m : SeatState} {over : Bool} → all ≡ left ++ last ∷ [] → id ≡ last.seat.table_id
      → m ≡ last.seat.me → over ≡ first_ended last.number last.ended false
      → (id ≡ b.table.shared.table_id) × (m.0.live ≡ true) × Together all left m.0 over
  begun {left} last {id} {m} {over} e id_is m_is over_is =
      let long : length all ≡ length left + 1 = ap length e ∙ length-append left (last ∷ []) in
      let at : get_or all (length left) last ≡ last = ap (λ xs. get_or xs (length left) last) e ∙ get_or-append_seam left last [] last in
      let of = seat_at left last (omega arith) at in
      let v : View = last.seat.me.0 in (
        id_is ∙ of.0.table,
        ap (λ (x : SeatState). x.0.live) m_is ∙ of.0.live,
        subst (λ (x : View). Together all left x over) (sym (ap (λ (x : SeatState). x.0) m_is)) record {
          gathered = comes_first brings left last v.kept last.number last.ended false over e (sym of.0.number) (sym of.0.ended) over_is;
          done = All-cons IsDone v.own v.kept of.3 (subst (All IsDone) (sym of.0.alone) (All-nil IsDone));
          size = of.2;
        },
      )

  -- the seat that comes next
  next_seat : {left : List BoardSeat} (left' : List BoardSeat) (other : BoardSeat) {v : View} {over : Bool} → Together all left v over
      → left ≡ left' ++ other ∷ [] → OfRank b (length all) other.number other
  next_seat {left} left' other {v} {over} T e = let next = came brings left' other T.gathered e in seat_at left' other next.0 (next.1 other)

  pub fits : {left : List BoardSeat} (left' : List BoardSeat) (other : BoardSeat) {v : View} {over : Bool} {id : TableId} {m : SeatState}
      → Together all left v over → left ≡ left' ++ other ∷ [] → id ≡ other.seat.table_id → m ≡ other.seat.me
      → (id ≡ b.table.shared.table_id) × (m.0.live ≡ true) × (m.1 ≡ [])
  fits {left} left' other {v} {over} {id} {m} T e id_is m_is =
      let of = next_seat left' other T e in
      (id_is ∙ of.0.table, ap (λ (x : SeatState). x.0.live) m_is ∙ of.0.live, ap (λ (x : SeatState). x.1) m_is ∙ holds_none other of.0 of.4)

  pub went_on : {left left' : List BoardSeat} (other : BoardSeat) {v u : View} {over over' : Bool} {m : SeatState} → Together all left v over
      → left ≡ left' ++ other ∷ [] → m ≡ other.seat.me → over' ≡ first_ended other.number other.ended over → u ≡ both v m.0
      → Together all left' u over'
  went_on {left} {left'} other {v} {u} {over} {over'} {m} T e m_is over_is u_is =
      let of = next_seat left' other T e in
      let w : View = other.seat.me.0 in
      let ks : List Known = v.own ∷ v.kept in
      let push : v.own ∷ (both v w).kept ≡ ks ++ w.own ∷ [] = ap (λ xs. ks ++ w.own ∷ xs) of.0.alone in
      subst (λ (x : View). Together all left' x over') (sym (u_is ∙ ap (λ (x : SeatState). both v x.0) m_is)) record {
        gathered = comes_next brings left' other ks (v.own ∷ (both v w).kept) other.number other.ended over over' T.gathered
            (alone brings.number D.ranks all D.same (λ k d h. (D.by_number k d h).1)) e push (sym of.0.number) (sym of.0.ended) over_is;
        done = subst (All IsDone) (sym push) (All-append IsDone ks (w.own ∷ []) T.done (All-cons IsDone w.own [] of.3 (All-nil IsDone)));
        size = T.size;
      }

  -- all have come together
  pub over_of : {left : List BoardSeat} {v : View} {over : Bool} → Together all left v over → length left ≡ 0
      → (s : BoardSeat) → Contains all s → s.seat.me.0.own.number ≡ 0 → over ≡ s.seat.me.0.own.ended
  over_of {left} {v} {over} T none s c lowest = first_says brings T.gathered none s c lowest

  pub squares_of : {left : List BoardSeat} {v : View} {over : Bool} → Together all left v over → length left ≡ 0 → Squares v
      → AllEven shown_by (IsSeat b) all
  squares_of {left} {v} {over} T none S r s cr cs =
      let x : Known = r.seat.me.0.own in
      let y : Known = s.seat.me.0.own in
      let ks : List Known = v.own ∷ v.kept in
      let cx : Contains ks x = all_know brings T.gathered none r cr in
      let cy : Contains ks y = all_know brings T.gathered none s cs in
      let sq : get_or (get_or ks cy.0 y).taken (get_or ks cx.0 x).number [] ≡ get_or (get_or ks cx.0 x).given (get_or ks cy.0 y).number [] =
      S cx.0 x cx.1 cy.0 y cy.1 in
      ap (λ (z : Known). get_or y.taken z.number []) (sym cx.2)
      ∙ ap (λ (z : Known). get_or z.taken (get_or ks cx.0 x).number []) (sym cy.2)
      ∙ sq ∙ ap (λ (z : Known). get_or z.given (get_or ks cy.0 y).number []) cx.2 ∙ ap (λ (z : Known). get_or x.given z.number []) cy.2

  -- where one knows of the halt, one has halted
  pub halters_of : {left : List BoardSeat} {v : View} {over : Bool} → Together all left v over → length left ≡ 0 → Halters v
      → HaltersAmong shown_by (IsSeat b) all
  halters_of {left} {v} {over} T none H k d h knows =
      let ks : List Known = v.own ∷ v.kept in
      let x : Known = (get_or all k d).seat.me.0.own in
      let cx : Contains ks x = T.gathered.has k d (omega arith) h in
      let P : Known → Type 0 = λ y. y.knows_halt ≡ true → (r : ℕ) × (r < v.own.n) × All (λ z. z.number ≡ r → z.halted ≡ true) ks in
      let at_k : Known = get_or ks cx.0 x in
      let p = subst P {x = at_k} cx.2 (H cx.0 x cx.1) knows in
      let r : ℕ = p.0 in
      let many = length_permutation D.ranks all D.same in
      let below : r < length D.ranks = (let lt : r < length all = subst (λ (j : ℕ). r < j) T.size p.1 in omega arith) in
      let s : BoardSeat = get_or D.ranks r d in
      let c : Contains all s = Contains-permutation D.ranks all s D.same (Contains-get_or D.ranks r d below) in
      let y : Known = s.seat.me.0.own in
      let cy : Contains ks y = all_know brings T.gathered none s c in
      let Q : Known → Type 0 = λ z. z.number ≡ r → z.halted ≡ true in
      let at_r : Known = get_or ks cy.0 y in
      let halted : y.halted ≡ true = subst Q {x = at_r} cy.2 (p.2 cy.0 y cy.1) (D.by_number r d below).1 in
      (c.0, c.1, ap (λ (z : BoardSeat). z.seat.me.0.own.halted) (get_or_default all c.0 d s c.1 ∙ c.2) ∙ halted)
