-- Failures of readers and of spans are counted.
use Rattle.range_copy.proofs.Prelude.{◌≡◌, ◌≢◌, ◌⊎◌, inl, inr, ℕ, zero, suc, ◌+◌, ◌≤◌, List, [], ◌∷◌, ◌++◌, map, refl, ap, ◌∙◌, sym, subst, arith, append-nil}
use Rattle.range_copy.proofs.Prelude.{Result, IfOk, sum_by-append, sum_by-cons, sum_by, RoseBy, capped, HasCounted, span_of, spans_of, AreBlamed, AreDone}
use Rattle.range_copy.proofs.Prelude.{AreFresh, came_of, faults_of, hand_of, outcome_of, reader_faults, Filler, Filled, Came, RangeError}
use Rattle.range_copy.specs.declared.filled.Filled.TheVariants as filled
use Rattle.range_copy.specs.declared.came.Came.TheVariants as came
use Rattle.range_copy.proofs.Outcomes.{outcome_rest}
use Rattle.range_copy.proofs.Worked.{Paired, by_hands}

pub rose_after : (a b c : ℕ) → a ≤ b → RoseBy 1 b c → RoseBy 1 a c
rose_after a b c k r = record { kept = omega (arith, k, r.kept); rose = omega (arith, k, r.rose) }

-- a reader that could not read has counted it
pub fresh : (f : Filled) (a b : ℕ) → (f ≢ filled.Done → RoseBy 1 a b) → (f ≡ filled.Done) ⊎ (1 ≤ b)
fresh filled.Done a b h = inl refl
fresh filled.Failed a b h = let r = h (λ e. cc) in inr (omega (arith, r.rose))
fresh filled.Changed a b h = let r = h (λ e. cc) in inr (omega (arith, r.rose))
fresh filled.Lost a b h = let r = h (λ e. cc) in inr (omega (arith, r.rose))

-- where none of the fillers can read the source, or one of them, that was counted
pub fresh_counted : {T S : Type 0} (reader_count : T → ℕ) (fillers : List (Filler T S)) → AreFresh reader_count fillers →
    (outcome_of fillers ≡ filled.Done → ⊥) → 1 ≤ reader_faults reader_count fillers
fresh_counted reader_count [] h off = absurd (off refl)
fresh_counted reader_count (one ∷ rest) h off = by (fresh_counted reader_count rest h.1) h.0
  where
    by : ((outcome_of rest ≡ filled.Done → ⊥) → 1 ≤ reader_faults reader_count rest) → (one.filled ≡ filled.Done) ⊎ (1 ≤ reader_count one.reader) →
        1 ≤ reader_faults reader_count (one ∷ rest)
    by later (inl e) = omega (arith, later (λ d. off (outcome_rest one rest e ∙ d)), sum_by-cons (λ o. reader_count o.reader) one rest)
    by later (inr k) = omega (arith, k, sum_by-cons (λ o. reader_count o.reader) one rest)

-- what was counted of readers and spans, once the spans are back
pub back_counted : (readers spans old mid new : ℕ) → 1 ≤ readers + spans → old ≤ mid → mid ≤ new → new ≡ capped mid spans →
    (RoseBy 1 old new) ⊎ (1 ≤ readers)
back_counted zero spans old mid new some kept rises is =
    inl (record { kept = omega (arith, kept, rises); rose = omega (arith, some, kept, is) })
back_counted (suc readers) spans old mid new some kept rises is = inr (omega arith)

-- a failure that is told was counted
pub cause_told : (X : Type 0) (f : Filled) (r : Result Came RangeError) → r ≡ came_of f → (f ≡ filled.Failed → X) → IfOk r (λ c. c ≡ came.Failed → X)
cause_told X f r is h = subst (λ r. IfOk r (λ c. c ≡ came.Failed → X)) (sym is) (by f h)
  where
    by : (f : Filled) → (f ≡ filled.Failed → X) → IfOk (came_of f) (λ c. c ≡ came.Failed → X)
    by filled.Done h = λ e. absurd (done_not e)
      where
        done_not : came.Done ≡ came.Failed → ⊥
        done_not e = cc
    by filled.Failed h = λ e. h refl
    by filled.Changed h = λ e. absurd (changed_not e)
      where
        changed_not : came.Changed ≡ came.Failed → ⊥
        changed_not e = cc
    by filled.Lost h = tt

-- none has failed
pub none_blamed : {T S : Type 0} (n : ℕ) (fillers : List (Filler T S)) → AreDone fillers → AreBlamed n fillers
none_blamed n [] d = tt
none_blamed n (one ∷ rest) d = ((λ e. absurd (differ (sym d.0 ∙ e))), none_blamed n rest d.1)
  where
    differ : filled.Done ≡ filled.Failed → ⊥
    differ e = cc

module _ {T S : Type 0} (reader_count : T → ℕ) (span_count : S → ℕ) where
  kept_all : (xs ys : List (Filler T S)) → Paired (HasCounted reader_count span_count) xs ys → reader_faults reader_count xs ≤ reader_faults reader_count ys
  kept_all [] [] h = omega arith
  kept_all [] (y ∷ ys) h = absurd h
  kept_all (x ∷ xs) [] h = absurd h
  kept_all (x ∷ xs) (y ∷ ys) h =
      omega (arith, h.0.kept, kept_all xs ys h.1, sum_by-cons (λ one. reader_count one.reader) x xs, sum_by-cons (λ one. reader_count one.reader) y ys)

  blamed_all : (n m : ℕ) (xs ys : List (Filler T S)) → Paired (HasCounted reader_count span_count) xs ys → n ≤ m →
      reader_faults reader_count ys + sum_by span_count (spans_of ys) ≤ m → AreBlamed n xs → AreBlamed m ys
  blamed_all n m [] [] h l s b = tt
  blamed_all n m [] (y ∷ ys) h l s b = absurd h
  blamed_all n m (x ∷ xs) [] h l s b = absurd h
  blamed_all n m (x ∷ xs) (y ∷ ys) h l s b =
      let readers = sum_by-cons (λ one. reader_count one.reader) y ys in
      let spans = sum_by-append span_count (span_of y.load) (spans_of ys) in
      ((λ f. by readers spans (h.0.blamed f)), blamed_all n m xs ys h.1 l (omega (arith, s, readers, spans)) b.1)
    where
      by : reader_faults reader_count (y ∷ ys) ≡ reader_count y.reader + reader_faults reader_count ys →
          sum_by span_count (span_of y.load ++ spans_of ys) ≡ sum_by span_count (span_of y.load) + sum_by span_count (spans_of ys) →
          (x.filled ≡ filled.Failed) ⊎ (1 ≤ reader_count y.reader + sum_by span_count (span_of y.load)) → 1 ≤ m
      by readers spans (inl e) = omega (arith, b.0 e, l)
      by readers spans (inr k) = omega (arith, k, s, readers, spans)

  pub blamed_works : (fillers fillers' : List (Filler T S)) (done : List S) → AreBlamed (faults_of reader_count span_count fillers done) fillers →
      Paired (HasCounted reader_count span_count) fillers fillers' →
      AreBlamed (faults_of reader_count span_count fillers' (done ++ spans_of fillers')) fillers'
  blamed_works fillers fillers' done b h =
      let kept = kept_all fillers fillers' h in
      let spans = sum_by-append span_count done (spans_of fillers') in
      blamed_all (faults_of reader_count span_count fillers done) (faults_of reader_count span_count fillers' (done ++ spans_of fillers')) fillers fillers' h
      (omega (arith, kept, spans)) (omega (arith, spans)) b

  faults_by_hands : (xs : List (Filler T S)) → reader_faults reader_count xs ≡ sum_by (λ hand. reader_count hand.0) (map hand_of xs)
  faults_by_hands [] = refl
  faults_by_hands (x ∷ xs) =
      sum_by-cons (λ one. reader_count one.reader) x xs ∙ ap (λ n. reader_count x.reader + n) (faults_by_hands xs)
      ∙ sym (sum_by-cons (λ hand. reader_count hand.0) (hand_of x) (map hand_of xs))

  pub blamed_turns : (fillers fillers' : List (Filler T S)) (done done' : List S) → map hand_of fillers' ≡ map hand_of fillers →
      done' ≡ done ++ spans_of fillers → AreBlamed (faults_of reader_count span_count fillers (done ++ spans_of fillers)) fillers →
      AreBlamed (faults_of reader_count span_count fillers' done') fillers'
  blamed_turns fillers fillers' done done' hands taken b =
      let same = faults_by_hands fillers' ∙ ap (sum_by (λ hand. reader_count hand.0)) hands ∙ sym (faults_by_hands fillers) in
      by_hands (λ hand. hand.1 ≡ filled.Failed → 1 ≤ faults_of reader_count span_count fillers' done') fillers fillers' hands
      (subst (λ n. AreBlamed n fillers) (λ i. sym same i + sum_by span_count (sym taken i)) b)

  pub blamed_ends : (fillers : List (Filler T S)) (done : List S) → spans_of fillers ≡ [] →
      AreBlamed (faults_of reader_count span_count fillers (done ++ spans_of fillers)) fillers →
      AreBlamed (faults_of reader_count span_count fillers done) fillers
  blamed_ends fillers done none b =
      subst (λ d. AreBlamed (faults_of reader_count span_count fillers d) fillers) (ap (λ s. done ++ s) none ∙ append-nil done) b
