-- Fillers at work on their spans, turn after turn.
use Rattle.range_copy.proofs.Prelude.{◌≡◌, ◌⊎◌, inl, inr, ℕ, zero, suc, ◌+◌, ◌*◌, ◌<◌, ◌≤◌, List, [], ◌∷◌, ◌++◌, map, length, Option, IfSome, refl, ap, ◌∙◌}
use Rattle.range_copy.proofs.Prelude.{sym, subst, arith, is_some, append_assoc, append-nil, length-append, slice_index_or, AllByRecursion, length-map}
use Rattle.range_copy.proofs.Prelude.{length-reverse, map-append, nil_from_length, Files, Piece, AreLoads, HasRange, HasWorked, IsShort, span_of, spans_left}
use Rattle.range_copy.proofs.Prelude.{spans_of, AllSee, AreDone, AreFilled, AreIdle, AreShort, IsTurn, hand_of, Filler, Filled, Load, all_join}
use Rattle.range_copy.specs.declared.filled.Filled.TheVariants as filled

-- what is so of the hands is so of the fillers

hands_there : {T S : Type 0} (P : T × Filled → Type 0) (xs : List (Filler T S)) → AllByRecursion (λ one. P (hand_of one)) xs →
    AllByRecursion P (map hand_of xs)
hands_there P [] h = tt
hands_there P (x ∷ xs) h = (h.0, hands_there P xs h.1)

hands_back : {T S : Type 0} (P : T × Filled → Type 0) (xs : List (Filler T S)) → AllByRecursion P (map hand_of xs) →
    AllByRecursion (λ one. P (hand_of one)) xs
hands_back P [] h = tt
hands_back P (x ∷ xs) h = (h.0, hands_back P xs h.1)

pub by_hands : {T S : Type 0} (P : T × Filled → Type 0) (xs ys : List (Filler T S)) → map hand_of ys ≡ map hand_of xs →
    AllByRecursion (λ one. P (hand_of one)) xs → AllByRecursion (λ one. P (hand_of one)) ys
by_hands P xs ys e h = hands_back P ys (subst (AllByRecursion P) (sym e) (hands_there P xs h))

pub idle_none : {T S : Type 0} (fillers : List (Filler T S)) → AreIdle fillers → spans_of fillers ≡ []
idle_none [] h = refl
idle_none (one ∷ rest) h = ap (λ l. span_of l ++ spans_of rest) h.0 ∙ idle_none rest h.1

-- each of a list with that of another one
abbrev pub Paired : {X : Type 0} → (X → X → Type 0) → List X → List X → Type 0
Paired P [] [] = Unit {0}
Paired P [] (y ∷ ys) = ⊥
Paired P (x ∷ xs) [] = ⊥
Paired P (x ∷ xs) (y ∷ ys) = P x y × Paired P xs ys

pub paired : {X : Type 0} (P : X → X → Type 0) (xs ys : List X) → length ys ≡ length xs →
    ((k : ℕ) (d : X) → k < length xs → P (slice_index_or xs k d) (slice_index_or ys k d)) → Paired P xs ys
paired P [] [] l h = tt
paired P [] (y ∷ ys) l h = absurd (omega (arith, l))
paired P (x ∷ xs) [] l h = absurd (omega (arith, l))
paired P (x ∷ xs) (y ∷ ys) l h = (h 0 x (omega arith), paired P xs ys (omega (arith, l)) (λ k d m. h (suc k) d (omega (arith, m))))

pub many_left : {S : Type 0} (loads : List (Load S)) → length (spans_left loads) ≡ length loads
many_left loads = length-reverse (map (λ (l : Load _). l.span) loads) ∙ length-map loads (λ (l : Load _). l.span)

module _ {T S : Type 0} (tree : T → Option Files) (piece : S → Piece) (holds : S → Option (List ℕ)) (source : List ℕ) (total : ℕ) where
  -- each has worked
  abbrev pub AllWorked : List (Filler T S) → List (Filler T S) → Type 0
  AllWorked xs ys = Paired (HasWorked tree piece holds source total) xs ys

  map_both : {Y : Type 0} (f : S → Y) (a a' b b' : List S) → map f a' ≡ map f a → map f b' ≡ map f b → map f (a' ++ b') ≡ map f (a ++ b)
  map_both f a a' b b' e g = map-append f a' b' ∙ (λ i. e i ++ g i) ∙ sym (map-append f a b)

  worked_pieces : (xs ys : List (Filler T S)) → AllWorked xs ys → map piece (spans_of ys) ≡ map piece (spans_of xs)
  worked_pieces [] [] h = refl
  worked_pieces [] (y ∷ ys) h = absurd h
  worked_pieces (x ∷ xs) [] h = absurd h
  worked_pieces (x ∷ xs) (y ∷ ys) h = map_both piece (span_of x.load) (span_of y.load) (spans_of xs) (spans_of ys) h.0.pieces (worked_pieces xs ys h.1)

  worked_tells : (xs ys : List (Filler T S)) → AllWorked xs ys → map (λ s. is_some (holds s)) (spans_of ys) ≡ map (λ s. is_some (holds s)) (spans_of xs)
  worked_tells [] [] h = refl
  worked_tells [] (y ∷ ys) h = absurd h
  worked_tells (x ∷ xs) [] h = absurd h
  worked_tells (x ∷ xs) (y ∷ ys) h =
      map_both (λ s. is_some (holds s)) (span_of x.load) (span_of y.load) (spans_of xs) (spans_of ys) h.0.tells (worked_tells xs ys h.1)

  worked_see : (seen : Option Files) (xs ys : List (Filler T S)) → AllWorked xs ys → AllSee tree seen xs → AllSee tree seen ys
  worked_see seen [] [] h s = tt
  worked_see seen [] (y ∷ ys) h s = absurd h
  worked_see seen (x ∷ xs) [] h s = absurd h
  worked_see seen (x ∷ xs) (y ∷ ys) h s = (h.0.same ∙ s.0, worked_see seen xs ys h.1 s.1)

  worked_done : (xs ys : List (Filler T S)) → AllWorked xs ys → AreDone ys → AreDone xs
  worked_done [] [] h d = tt
  worked_done [] (y ∷ ys) h d = absurd h
  worked_done (x ∷ xs) [] h d = absurd h
  worked_done (x ∷ xs) (y ∷ ys) h d = (h.0.done d.0, worked_done xs ys h.1 d.1)

  worked_ranges : (seen : Option Files) (xs ys : List (Filler T S)) → AllWorked xs ys → AllSee tree seen xs → AreDone ys →
      AllByRecursion (HasRange piece holds source seen) (spans_of ys)
  worked_ranges seen [] [] h s d = tt
  worked_ranges seen [] (y ∷ ys) h s d = absurd h
  worked_ranges seen (x ∷ xs) [] h s d = absurd h
  worked_ranges seen (x ∷ xs) (y ∷ ys) h s d =
      all_join (HasRange piece holds source seen) (span_of y.load) (spans_of ys)
      (subst (λ t. AllByRecursion (HasRange piece holds source t) (span_of y.load)) s.0 (h.0.ranges d.0))
      (worked_ranges seen xs ys h.1 s.1 d.1)

  worked_short : (seen : Option Files) (xs ys : List (Filler T S)) → AllWorked xs ys → AllSee tree seen xs → AreShort source total seen xs →
      AreShort source total seen ys
  worked_short seen [] [] h s r = tt
  worked_short seen [] (y ∷ ys) h s r = absurd h
  worked_short seen (x ∷ xs) [] h s r = absurd h
  worked_short seen (x ∷ xs) (y ∷ ys) h s r =
      ((λ c. by (h.0.short c)), worked_short seen xs ys h.1 s.1 r.1)
    where
      by : (x.filled ≡ filled.Changed) ⊎ IfSome (tree x.reader) (IsShort source total) → IfSome seen (IsShort source total)
      by (inl e) = r.0 e
      by (inr e) = subst (λ t. IfSome t (IsShort source total)) s.0 e

  -- the spans so far: those that are done, those that fillers have, and those that are left. So many are filled
  pub record Filling (fillers0 : List (Filler T S)) (spans0 : List S) (fillers : List (Filler T S)) (loads : List (Load S))
      (done so_far : List S) : Type 0 where
    pub pieces : map piece (done ++ (spans_of fillers ++ spans_left loads)) ≡ map piece spans0
    pub tells : map (λ s. is_some (holds s)) (done ++ (spans_of fillers ++ spans_left loads)) ≡ map (λ s. is_some (holds s)) spans0
    pub are_loads : AreLoads piece total loads
    pub see : (seen : Option Files) → AllSee tree seen fillers0 → AllSee tree seen fillers
    pub ranges : (seen : Option Files) → AllSee tree seen fillers0 → AreDone fillers → AllByRecursion (HasRange piece holds source seen) so_far
    pub short : (seen : Option Files) → AllSee tree seen fillers0 → AreShort source total seen fillers

  none_short : (seen : Option Files) (fillers : List (Filler T S)) → AreDone fillers → AreShort source total seen fillers
  none_short seen [] d = tt
  none_short seen (one ∷ rest) d = ((λ c. absurd (differ (sym d.0 ∙ c))), none_short seen rest d.1)
    where
      differ : filled.Done ≡ filled.Changed → ⊥
      differ e = cc

  pub filling_starts : (fillers : List (Filler T S)) (loads : List (Load S)) (done : List S) → AreIdle fillers → AreDone fillers → done ≡ [] →
      AreLoads piece total loads → Filling fillers (spans_left loads) fillers loads done (done ++ spans_of fillers)
  filling_starts fillers loads done idle fine empty are =
      let none = idle_none fillers idle in
      let whole : done ++ (spans_of fillers ++ spans_left loads) ≡ spans_left loads = (λ i. empty i ++ (none i ++ spans_left loads)) in
      record {
        pieces = ap (map piece) whole;
        tells = ap (map (λ s. is_some (holds s))) whole;
        are_loads = are;
        see = λ seen h. h;
        ranges = λ seen h d. subst (AllByRecursion (HasRange piece holds source seen)) (λ i. sym empty i ++ sym none i) tt;
        short = λ seen h. none_short seen fillers fine;
      }

  pub filling_turns : {fillers0 fillers fillers' : List (Filler T S)} {spans0 done done' : List S} {loads loads' : List (Load S)} →
      Filling fillers0 spans0 fillers loads done (done ++ spans_of fillers) →
      (AreLoads piece total loads → IsTurn piece total fillers loads done fillers' loads' done') →
      Filling fillers0 spans0 fillers' loads' done' done'
  filling_turns {fillers = fillers} {fillers' = fillers'} {done = done} {done' = done'} {loads = loads} {loads' = loads'} f turns =
      let t = turns f.are_loads in
      let whole : done' ++ (spans_of fillers' ++ spans_left loads') ≡ done ++ (spans_of fillers ++ spans_left loads) =
      ap (λ r. done' ++ r) t.dealt ∙ ap (λ r. r ++ spans_left loads) t.taken ∙ append_assoc done (spans_of fillers) (spans_left loads) in
      record {
        pieces = ap (map piece) whole ∙ f.pieces;
        tells = ap (map (λ s. is_some (holds s))) whole ∙ f.tells;
        are_loads = t.are_loads;
        see = λ seen h. by_hands (λ hand. tree hand.0 ≡ seen) fillers fillers' t.hands (f.see seen h);
        ranges = λ seen h d. subst (AllByRecursion (HasRange piece holds source seen)) (sym t.taken)
            (f.ranges seen h (by_hands (λ hand. hand.1 ≡ filled.Done) fillers' fillers (sym t.hands) d));
        short = λ seen h. by_hands (λ hand. hand.1 ≡ filled.Changed → IfSome seen (IsShort source total)) fillers fillers' t.hands (f.short seen h);
      }

  pub filling_works : {fillers0 fillers : List (Filler T S)} {spans0 done : List S} {loads : List (Load S)} (fillers' : List (Filler T S)) →
      Filling fillers0 spans0 fillers loads done done → AllWorked fillers fillers' → Filling fillers0 spans0 fillers' loads done (done ++ spans_of fillers')
  filling_works {fillers = fillers} {done = done} {loads = loads} fillers' f w = record {
    pieces = map_both piece done done (spans_of fillers ++ spans_left loads) (spans_of fillers' ++ spans_left loads) refl
        (map_both piece (spans_of fillers) (spans_of fillers') (spans_left loads) (spans_left loads) (worked_pieces fillers fillers' w) refl) ∙ f.pieces;
    tells = map_both (λ s. is_some (holds s)) done done (spans_of fillers ++ spans_left loads) (spans_of fillers' ++ spans_left loads) refl
        (map_both (λ s. is_some (holds s)) (spans_of fillers) (spans_of fillers') (spans_left loads) (spans_left loads) (worked_tells fillers fillers' w) refl)
        ∙ f.tells;
    are_loads = f.are_loads;
    see = λ seen h. worked_see seen fillers fillers' w (f.see seen h);
    ranges = λ seen h d. all_join (HasRange piece holds source seen) done (spans_of fillers') (f.ranges seen h (worked_done fillers fillers' w d))
        (worked_ranges seen fillers fillers' w (f.see seen h) d);
    short = λ seen h. worked_short seen fillers fillers' w (f.see seen h) (f.short seen h);
  }

  -- how many there are

  pub as_many : {fillers0 fillers : List (Filler T S)} {spans0 done so_far : List S} {loads : List (Load S)} →
      Filling fillers0 spans0 fillers loads done so_far → length done + length (spans_of fillers) + length (spans_left loads) ≡ length spans0
  as_many {fillers = fillers} {spans0 = spans0} {done = done} {loads = loads} f =
      let a = length-append done (spans_of fillers ++ spans_left loads) in
      let b = length-append (spans_of fillers) (spans_left loads) in
      let c = sym (length-map (done ++ (spans_of fillers ++ spans_left loads)) piece) ∙ ap length f.pieces ∙ length-map spans0 piece in
      omega (arith, a, b, c)

  pub worked_many : (xs ys : List (Filler T S)) → AllWorked xs ys → length (spans_of ys) ≡ length (spans_of xs)
  worked_many xs ys w = sym (length-map (spans_of ys) piece) ∙ ap length (worked_pieces xs ys w) ∙ length-map (spans_of xs) piece

  -- once as many are done as were to be dealt, none is with a filler and none is left

  pub none_out : {fillers0 fillers : List (Filler T S)} {done so_far : List S} {loads : List (Load S)} (loads0 : List (Load S)) →
      Filling fillers0 (spans_left loads0) fillers loads done so_far → length loads0 ≤ length done → spans_of fillers ≡ []
  none_out {fillers = fillers} loads0 f over = nil_from_length (spans_of fillers) (omega (arith, as_many f, many_left loads0, over))

  none_left : {fillers0 fillers : List (Filler T S)} {done so_far : List S} {loads : List (Load S)} (loads0 : List (Load S)) →
      Filling fillers0 (spans_left loads0) fillers loads done so_far → length loads0 ≤ length done → loads ≡ []
  none_left {loads = loads} loads0 f over = nil_from_length loads (omega (arith, as_many f, many_left loads0, many_left loads, over))

  pub filling_ends : {fillers0 fillers : List (Filler T S)} {done : List S} {loads : List (Load S)} (loads0 : List (Load S)) →
      Filling fillers0 (spans_left loads0) fillers loads done (done ++ spans_of fillers) → length loads0 ≤ length done →
      AreFilled tree piece holds source total fillers0 (spans_left loads0) fillers done
  filling_ends {fillers = fillers} {done = done} {loads = loads} loads0 f over =
      let have : spans_of fillers ≡ [] = none_out loads0 f over in
      let left : spans_left loads ≡ [] = ap spans_left (none_left loads0 f over) in
      let whole : done ≡ done ++ (spans_of fillers ++ spans_left loads) = sym (append-nil done) ∙ (λ i. done ++ (sym have i ++ sym left i)) in
      record {
        pieces = ap (map piece) whole ∙ f.pieces;
        tells = ap (map (λ s. is_some (holds s))) whole ∙ f.tells;
        ranges = λ seen h d. subst (AllByRecursion (HasRange piece holds source seen)) (ap (λ r. done ++ r) have ∙ append-nil done) (f.ranges seen h d);
        short = f.short;
      }

-- a turn leaves fewer to deal, or none with the fillers
pub shrinks : (s s' t l l' d n : ℕ) → s' ≡ t → t + l' ≡ l → (0 < l → l' < l) → d + s + l ≡ n → d < n → s' + 2 * l' < s + 2 * l
shrinks s s' t zero l' d n e f h m less = omega (arith, e, f, m, less)
shrinks s s' t (suc l) l' d n e f h m less = let k = h (omega arith) in omega (arith, e, f, k)
