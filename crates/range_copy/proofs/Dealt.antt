-- A turn: each filler gives its span away and gets the next one.
use Rattle.range_copy.proofs.Prelude.{◌≡◌, ℕ, zero, suc, ◌+◌, ◌<◌, ◌≤◌, List, [], ◌∷◌, ◌++◌, map, length, take, drop, Option, Some, None, refl, ap, ◌∙◌, sym}
use Rattle.range_copy.proofs.Prelude.{subst, arith, slice_get, append_assoc, append-nil, length-append, reverse, slice_set, drop-drop, map-append}
use Rattle.range_copy.proofs.Prelude.{reverse-append, take_all, drop_all, Piece, AreLoads, IsLoad, IsReady, loads_of, span_of, spans_left, spans_of, AreReady}
use Rattle.range_copy.proofs.Prelude.{IsTurn, hand_of, Filler, Load, split_drop_suc, map_set}
use Rattle.std.specs.Prelude.{IfSome}
use Rattle.range_copy.proofs.Loaded.{all_apart, all_push}

-- one place of a list is written

more : (i : ℕ) → i + 1 ≡ suc i
more i = omega arith

take_set : {X : Type 0} (xs : List X) (i : ℕ) (x y : X) → slice_get xs i ≡ Some x → take (suc i) (slice_set xs i y) ≡ take i xs ++ y ∷ []
take_set [] zero x y e = cc
take_set [] (suc i) x y e = cc
take_set (z ∷ xs) zero x y e = refl
take_set (z ∷ xs) (suc i) x y e = ap (λ r. z ∷ r) (take_set xs i x y e)

drop_set : {X : Type 0} (xs : List X) (i : ℕ) (y : X) → drop (suc i) (slice_set xs i y) ≡ drop (suc i) xs
drop_set [] zero y = refl
drop_set [] (suc i) y = refl
drop_set (z ∷ xs) zero y = refl
drop_set (z ∷ xs) (suc i) y = drop_set xs i y

pub spans_both : {T S : Type 0} (xs ys : List (Filler T S)) → spans_of (xs ++ ys) ≡ spans_of xs ++ spans_of ys
spans_both [] ys = refl
spans_both (x ∷ xs) ys = ap (λ r. span_of x.load ++ r) (spans_both xs ys) ∙ sym (append_assoc (span_of x.load) (spans_of xs) (spans_of ys))

left_of : {S : Type 0} (loads : List (Load S)) (next : Option (Load S)) → spans_left (loads ++ loads_of next) ≡ span_of next ++ spans_left loads
left_of loads None = ap spans_left (append-nil loads)
left_of loads (Some load) =
    ap reverse (map-append (λ (l : Load _). l.span) loads (load ∷ [])) ∙ reverse-append (map (λ (l : Load _). l.span) loads) (load.span ∷ [])

-- a turn that has come to the filler at a place
pub record Turning {T S : Type 0} (piece : S → Piece) (fillers0 : List (Filler T S)) (loads0 : List (Load S)) (done0 : List S) (i : ℕ)
    (fillers : List (Filler T S)) (loads : List (Load S)) (done : List S) : Type 0 where
  pub rest : drop i fillers ≡ drop i fillers0
  pub taken : done ++ spans_of (drop i fillers0) ≡ done0 ++ spans_of fillers0
  pub dealt : spans_of (take i fillers) ++ spans_left loads ≡ spans_left loads0
  pub ready : (total : ℕ) → AreLoads piece total loads0 → AreReady piece total (take i fillers) × AreLoads piece total loads
  pub hands : map hand_of fillers ≡ map hand_of fillers0
  pub less : length loads ≤ length loads0
  pub fewer : 0 < i → 0 < length loads0 → length loads < length loads0

pub turn_starts : {T S : Type 0} (piece : S → Piece) (fillers : List (Filler T S)) (loads : List (Load S)) (done : List S) →
    Turning piece fillers loads done 0 fillers loads done
turn_starts piece fillers loads done = record {
  rest = refl;
  taken = refl;
  dealt = refl;
  ready = λ total h. (tt, h);
  hands = refl;
  less = omega arith;
  fewer = λ l. absurd (omega (arith, l));
}

-- what happens at one filler
pub record Handed {T S : Type 0} (one after : Filler T S) (next last : Option (Load S)) (loads loads' : List (Load S)) (done done' : List S) : Type 0 where
  pub next_is : loads ≡ loads' ++ loads_of next
  pub none : next ≡ None → loads ≡ []
  pub last_is : last ≡ one.load
  pub has : after.load ≡ next
  pub reader : after.reader ≡ one.reader
  pub filled : after.filled ≡ one.filled
  pub put : done' ≡ done ++ span_of last

length_of : {S : Type 0} (loads loads' : List (Load S)) (next : Option (Load S)) → loads ≡ loads' ++ loads_of next → (next ≡ None → loads ≡ []) →
    (length loads' ≤ length loads) × (0 < length loads → length loads' < length loads)
length_of loads loads' None e n =
    let same = ap length e ∙ ap length (append-nil loads') in
    let none = ap length (n refl) in
    (omega (arith, same), λ l. absurd (omega (arith, l, none)))
length_of loads loads' (Some load) e n =
    let same = ap length e ∙ length-append loads' (load ∷ []) in
    (omega (arith, same), λ l. omega (arith, same))

module _ {T S : Type 0} (piece : S → Piece) (fillers0 : List (Filler T S)) (loads0 : List (Load S)) (done0 : List S) (i : ℕ)
    (fillers : List (Filler T S)) (loads : List (Load S)) (done : List S) (one after : Filler T S) (next last : Option (Load S))
    (loads' : List (Load S)) (done' : List S) (at : slice_get fillers i ≡ Some one) (h : Handed one after next last loads loads' done done')
    (t : Turning piece fillers0 loads0 done0 i fillers loads done) where
  later : drop (suc i) fillers ≡ drop (suc i) fillers0
  later =
      ap (λ k. drop k fillers) (sym (more i)) ∙ sym (drop-drop 1 i fillers) ∙ ap (drop 1) t.rest ∙ drop-drop 1 i fillers0
      ∙ ap (λ k. drop k fillers0) (more i)

  front : take (i + 1) (slice_set fillers i after) ≡ take i fillers ++ after ∷ []
  front = ap (λ k. take k (slice_set fillers i after)) (more i) ∙ take_set fillers i one after at

  counts : (length loads' ≤ length loads) × (0 < length loads → length loads' < length loads)
  counts = length_of loads loads' next h.next_is h.none

  one_ready : (total : ℕ) (next : Option (Load S)) → AreLoads piece total (loads_of next) → IfSome next (IsLoad piece total)
  one_ready total None a = tt
  one_ready total (Some load) a = a.0

  pub turn_steps : Turning piece fillers0 loads0 done0 (i + 1) (slice_set fillers i after) loads' done'
  turn_steps = record {
    rest = ap (λ k. drop k (slice_set fillers i after)) (more i) ∙ drop_set fillers i after ∙ later ∙ ap (λ k. drop k fillers0) (sym (more i));
    taken =
        let own : spans_of (drop i fillers0) ≡ span_of one.load ++ spans_of (drop (suc i) fillers0) =
        ap spans_of (sym t.rest ∙ split_drop_suc fillers i one at) ∙ ap (λ r. span_of one.load ++ spans_of r) later in
        ap (λ r. r ++ spans_of (drop (i + 1) fillers0)) (h.put ∙ ap (λ l. done ++ span_of l) h.last_is)
        ∙ ap (λ k. (done ++ span_of one.load) ++ spans_of (drop k fillers0)) (more i)
        ∙ append_assoc done (span_of one.load) (spans_of (drop (suc i) fillers0)) ∙ ap (λ r. done ++ r) (sym own) ∙ t.taken;
    dealt =
        ap (λ r. spans_of r ++ spans_left loads') front
        ∙ ap (λ r. r ++ spans_left loads') (spans_both (take i fillers) (after ∷ []) ∙ ap (λ r. spans_of (take i fillers) ++ r)
        (append-nil (span_of after.load) ∙ ap span_of h.has))
        ∙ append_assoc (spans_of (take i fillers)) (span_of next) (spans_left loads')
        ∙ ap (λ r. spans_of (take i fillers) ++ r) (sym (left_of loads' next) ∙ ap spans_left (sym h.next_is)) ∙ t.dealt;
    ready = λ total a.
        let r = t.ready total a in
        let parts = all_apart (IsLoad piece total) loads' (loads_of next) (subst (AreLoads piece total) h.next_is r.1) in (
          subst (AreReady piece total) (sym front) (all_push (IsReady piece total) (take i fillers) after r.0
              (subst (λ l. IfSome l (IsLoad piece total)) (sym h.has) (one_ready total next parts.1))),
          parts.0,
        );
    hands = map_set hand_of fillers i one after at (λ k. (h.reader k, h.filled k)) ∙ t.hands;
    less = let l = t.less in omega (arith, l, counts.0);
    fewer = λ l m. by next h.next_is h.none m;
  }
    where
      by : (next : Option (Load S)) → loads ≡ loads' ++ loads_of next → (next ≡ None → loads ≡ []) → 0 < length loads0 → length loads' < length loads0
      by None e n m =
          let same = ap length e ∙ ap length (append-nil loads') in
          let none = ap length (n refl) in
          omega (arith, same, none, m)
      by (Some load) e n m =
          let same = ap length e ∙ length-append loads' (load ∷ []) in
          let l = t.less in
          omega (arith, same, l)

-- there is room for the span that a filler gives away
pub room_for : {T S : Type 0} (piece : S → Piece) (fillers0 : List (Filler T S)) (loads0 : List (Load S)) (done0 : List S) (i n : ℕ)
    (fillers : List (Filler T S)) (loads : List (Load S)) (done : List S) (one : Filler T S) (last : Option (Load S)) → slice_get fillers i ≡ Some one →
    last ≡ one.load → length done0 + length (spans_of fillers0) ≤ n → Turning piece fillers0 loads0 done0 i fillers loads done →
    length done + length (span_of last) ≤ n
room_for piece fillers0 loads0 done0 i n fillers loads done one last at is room t =
    let own = ap length (ap spans_of (sym t.rest ∙ split_drop_suc fillers i one at)) in
    let a = length-append (span_of one.load) (spans_of (drop (suc i) fillers)) in
    let b = ap length t.taken in
    let c = length-append done (spans_of (drop i fillers0)) in
    let d = length-append done0 (spans_of fillers0) in
    let e = ap (λ l. length (span_of l)) is in
    omega (arith, own, a, b, c, d, e, room)

pub turn_ends : {T S : Type 0} (piece : S → Piece) (fillers0 : List (Filler T S)) (loads0 : List (Load S)) (done0 : List S) (i total : ℕ)
    (fillers : List (Filler T S)) (loads : List (Load S)) (done : List S) → 0 < length fillers0 → length fillers ≡ length fillers0 → length fillers0 ≤ i →
    AreLoads piece total loads0 → Turning piece fillers0 loads0 done0 i fillers loads done → IsTurn piece total fillers0 loads0 done0 fillers loads done
turn_ends piece fillers0 loads0 done0 i total fillers loads done some len end are t =
    let whole : take i fillers ≡ fillers = take_all i fillers (omega (arith, len, end)) in
    let r = t.ready total are in
    record {
      taken = sym (append-nil done) ∙ ap (λ r. done ++ spans_of r) (sym (drop_all i fillers0 end)) ∙ t.taken;
      dealt = ap (λ r. spans_of r ++ spans_left loads) (sym whole) ∙ t.dealt;
      ready = subst (AreReady piece total) whole r.0;
      are_loads = r.1;
      hands = t.hands;
      fewer = t.fewer (omega (arith, some, end));
    }
