-- Seats that come together, the last one first.
use Rattle.sum_tree.proofs.Prelude.{◌≡◌, ℕ, ◌+◌, ◌<◌, refl, sym, subst, ap, ◌∙◌, arith, true, List, [], ◌∷◌, ◌++◌, length, length-append, get_or, sum_by}
use Rattle.sum_tree.proofs.Prelude.{Option, Some, None, is_some, IsSome, false, unwrap_or, get_or-append_seam, Contains, range_with_len, Contains-get_or}
use Rattle.sum_tree.proofs.Prelude.{Contains-permutation, length_permutation, sum_by-IsPermutation, pick_l_whole, spare, numbered, alone, Brings, Gathered}
use Rattle.sum_tree.proofs.Prelude.{comes_first, came, comes_next, all_know, first_says, TableId, AllFinished, both, SeatState, Totals, IsSeat, shown_by}
use Rattle.sum_tree.proofs.Prelude.{first_answer, Known, View, SumTree, SumSeat}
use Rattle.sum_tree.proofs.Ranges.{sum_of_map, same_sums}

some_of : (o : Option ℕ) → IsSome o → o ≡ Some (unwrap_or o 0)
some_of None some = absurd (let e : false ≡ true = some in cc)
some_of (Some x) some = refl

-- what is asked of the seat of one rank
abbrev OfRank : SumTree → ℕ → ℕ → SumSeat → Type 0
OfRank t n k s = IsSeat t s × ((shown_by s).number ≡ k) × ((shown_by s).n ≡ n) × IsSome (shown_by s).answer

-- the knowledge of its rank that a seat brings, and its answer
abbrev pub brings : Brings SumSeat Known ℕ
brings = record {
  knows = λ (s : SumSeat). s.seat.me.0.own;
  number = λ (s : SumSeat). s.seat.me.0.own.number;
  says = λ (s : SumSeat). unwrap_or s.answer 0;
}

-- these are left, and all others came together in the view v
pub record Together (n : ℕ) (all left : List SumSeat) (v : View) (answer : ℕ) : Type 0 where
  pub sized : v.own.n ≡ n
  pub gathered : Gathered brings all left (v.own ∷ v.kept) answer

module _ (t : SumTree) (all : List SumSeat) (D : AllFinished shown_by (IsSeat t) all) where
  -- each is the seat of a rank
  rank_of : (s : SumSeat) → Contains all s → (k : ℕ) × (k < length D.ranks) × (get_or D.ranks k s ≡ s) × OfRank t (length D.ranks) k s
  rank_of s c = numbered (OfRank t (length D.ranks)) D.ranks all D.same (λ k d lt. D.by_number k d lt) s c

  seat_at : (left : List SumSeat) (other : SumSeat) → length left < length all → get_or all (length left) other ≡ other → IsSeat t other
  seat_at left other short at = (rank_of other (length left, short, at)).3.0

  pub begun : {left : List SumSeat} (last : SumSeat) {id : TableId} {m : SeatState} {answer : ℕ} → all ≡ left ++ last ∷ []
      → id ≡ last.seat.table_id → m ≡ last.seat.me → answer ≡ first_answer last.number last.answer 0
      → (id ≡ t.table.shared.table_id) × (m.0.live ≡ true) × Together t.n all left m.0 answer
  begun {left} last {id} {m} {answer} e id_is m_is answer_is =
      let G = comes_first brings left last last.seat.me.0.kept last.number (unwrap_or last.answer 0) 0 answer e in
      let long : length all ≡ length left + 1 = ap length e ∙ length-append left (last ∷ []) in
      let S : IsSeat t last = seat_at left last (omega arith) (ap (λ xs. get_or xs (length left) last) e ∙ get_or-append_seam left last [] last) in (
        id_is ∙ S.mine.table,
        ap (λ (x : SeatState). x.0.live) m_is ∙ S.mine.live,
        subst (λ (x : SeatState). Together t.n all left x.0 answer) (sym m_is)
            (record { sized = S.mine.sized; gathered = G (sym S.mine.number) refl answer_is }),
      )

  -- the seat that comes next
  next_seat : {left : List SumSeat} (left' : List SumSeat) (other : SumSeat) {v : View} {answer : ℕ} → Together t.n all left v answer
      → left ≡ left' ++ other ∷ [] → IsSeat t other
  next_seat {left} left' other {v} {answer} T e = let next = came brings left' other T.gathered e in seat_at left' other next.0 (next.1 other)

  pub fits : {left : List SumSeat} (left' : List SumSeat) (other : SumSeat) {v : View} {answer : ℕ} {id : TableId} {m : SeatState}
      → Together t.n all left v answer → left ≡ left' ++ other ∷ [] → id ≡ other.seat.table_id → m ≡ other.seat.me
      → (id ≡ t.table.shared.table_id) × (m.0.live ≡ true) × (m.1 ≡ [])
  fits {left} left' other {v} {answer} {id} {m} T e id_is m_is =
      let S : IsSeat t other = next_seat left' other T e in
      (id_is ∙ S.mine.table, ap (λ (x : SeatState). x.0.live) m_is ∙ S.mine.live, ap (λ (x : SeatState). x.1) m_is ∙ S.alone.1)

  pub went_on : {left left' : List SumSeat} (other : SumSeat) {v u : View} {answer answer' : ℕ} {m : SeatState} → Together t.n all left v answer
      → left ≡ left' ++ other ∷ [] → m ≡ other.seat.me
      → answer' ≡ first_answer other.number other.answer answer → u ≡ both v m.0 → Together t.n all left' u answer'
  went_on {left} {left'} other {v} {u} {answer} {answer'} {m} T e m_is answer_is u_is =
      let S : IsSeat t other = next_seat left' other T e in
      let w : View = other.seat.me.0 in
      subst (λ (x : View). Together t.n all left' x answer') (sym (u_is ∙ ap (λ (x : SeatState). both v x.0) m_is)) record {
        sized = T.sized;
        gathered = comes_next brings left' other (v.own ∷ v.kept) (v.own ∷ (both v w).kept) other.number (unwrap_or other.answer 0) answer answer'
            T.gathered (alone brings.number D.ranks all D.same (λ k d lt. (D.by_number k d lt).1)) e
            (ap (λ xs. (v.own ∷ v.kept) ++ w.own ∷ xs) S.alone.0) (sym S.mine.number) refl answer_is;
      }

  -- there are ranks
  pub some_ranks : 0 < length all → 0 < t.n
  some_ranks some =
      let d : SumSeat = spare all some in
      let inside = (rank_of (get_or all 0 d) (Contains-get_or all 0 d some)).3.0.mine.inside in omega arith

  -- all have come together
  pub total_of : {left : List SumSeat} {v : View} {answer : ℕ} → Together t.n all left v answer → length left ≡ 0
      → 0 < length all → Totals v
      → (answer ≡ sum_by (λ s. (shown_by s).count) all)
      × ((s : SumSeat) → Contains all s → (shown_by s).number ≡ 0 → (shown_by s).answer ≡ Some answer)
  total_of {left} {v} {answer} T none some totals = (whole (spare all some), first)
    where
      first : (s : SumSeat) → Contains all s → (shown_by s).number ≡ 0 → s.answer ≡ Some answer
      first s c lowest =
          some_of s.answer (rank_of s c).3.3 ∙ ap Some (sym (first_says brings T.gathered none s c lowest))

      some_from : (o : Option ℕ) → IsSome o → is_some o ≡ true
      some_from None h = h
      some_from (Some y) h = refl

      whole : SumSeat → answer ≡ sum_by (λ s. (shown_by s).count) all
      whole d =
          let ranks : List SumSeat = D.ranks in
          let f : ℕ → Known = λ k. (get_or ranks k d).seat.me.0.own in
          let as_many : length all ≡ length ranks = length_permutation ranks all D.same in
          let of : (k : ℕ) → k < length ranks → OfRank t (length ranks) k (get_or ranks k d) = λ k h. D.by_number k d h in
          let among : (k : ℕ) → k < length ranks → Contains all (get_or ranks k d) =
          λ k h. Contains-permutation ranks all (get_or ranks k d) D.same (Contains-get_or ranks k d h) in
          let has : (k : ℕ) → k < length ranks → Contains (v.own ∷ v.kept) (f k) =
          λ k h. all_know brings T.gathered none (get_or ranks k d) (among k h) in
          let zero_is = of 0 (omega arith) in
          let long : t.n ≡ length ranks = sym zero_is.0.mine.sized ∙ zero_is.2 in
          let size = T.sized in
          let finals : (k : ℕ) → k < length ranks → (f k).is_final ≡ true =
          λ k h. (let q = of k h in q.0.final ∙ some_from (get_or ranks k d).answer q.3) in
          let told = totals f (λ k h. (has k (omega arith), (of k (omega arith)).1)) (omega arith) (finals 0 (omega arith)) in
          sym (zero_is.0.answered answer (first (get_or ranks 0 d) (among 0 (omega arith)) zero_is.1)) ∙ told
          ∙ ap (λ (j : ℕ). sum_by (λ k. (f k).count) (range_with_len 0 j)) (size ∙ long)
          ∙ same_sums (λ k. (f k).count) (λ k. (get_or ranks k d).count) 0 (length ranks)
          (λ k low high. (let q = of k (omega arith) in q.0.all_stored (finals k (omega arith))))
          ∙ sym (ap (sum_by (λ (s : SumSeat). s.count)) (sym (pick_l_whole d ranks (length ranks) refl))
          ∙ sum_of_map (λ (s : SumSeat). s.count) (λ k. get_or ranks k d) (range_with_len 0 (length ranks)))
          ∙ sym (sum_by-IsPermutation (λ (s : SumSeat). s.count) ranks all D.same)
