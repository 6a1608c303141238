-- Ranks are parted into two hosts.
use Rattle.circle_run.proofs.Prelude.{◌≡◌, ℕ, suc, ◌+◌, ◌<◌, refl, sym, subst, ap, ◌∙◌, arith, List, [], ◌∷◌, ◌++◌, length, length-append, get_or, sum_by}
use Rattle.circle_run.proofs.Prelude.{get_or_append_left, sum_by-cons, sum_by-append, All-nil, All-cons, All-append, dite, ℕ_discrete, Rank, IsOne, IsHost}

seam : {A : Type 0} (xs : List A) (y : A) (d : A) → get_or (xs ++ y ∷ []) (length xs) d ≡ y
seam [] y d = refl
seam (x ∷ xs) y d = seam xs y d

module _ {J S T : Type 0} where
  pub record Parting (whole before chosen rest left : List (Rank J S T)) : Type 0 where
    pub left_is : IsHost whole left
    pub chosen_is : IsHost whole chosen
    pub rest_is : IsHost whole rest
    pub chosen_below : (j k : ℕ) (d : Rank J S T) → j < length chosen → k < length left → (get_or chosen j d).me < (get_or left k d).me
    pub rest_below : (j k : ℕ) (d : Rank J S T) → j < length rest → k < length left → (get_or rest j d).me < (get_or left k d).me
    pub numbers : (h : ℕ → ℕ) → sum_by (λ r. h r.me) chosen + sum_by (λ r. h r.me) rest + sum_by (λ r. h r.me) left ≡ sum_by (λ r. h r.me) before

  -- a rank above all of a host joins it
  host_more : (whole xs : List (Rank J S T)) (r : Rank J S T) → IsHost whole xs → ((j : ℕ) (d : Rank J S T) → j < length xs → (get_or xs j d).me < r.me)
      → IsOne whole r → IsHost whole (xs ++ r ∷ [])
  host_more whole xs r host below one = record {
    order = λ j k d lt h. (let n = length-append xs (r ∷ []) in dite (ℕ_discrete k (length xs))
        (λ e. (let a : (get_or (xs ++ r ∷ []) j d).me ≡ (get_or xs j d).me = ap (λ (x : Rank J S T). x.me) (get_or_append_left xs (r ∷ []) d j (omega arith)) in
        let b : (get_or (xs ++ r ∷ []) k d).me ≡ r.me = ap (λ (i : ℕ). (get_or (xs ++ r ∷ []) i d).me) e ∙ ap (λ (x : Rank J S T). x.me) (seam xs r d) in
        let q = below j d (omega arith) in omega (arith, a, b, q)))
        (λ ne. (let a : (get_or (xs ++ r ∷ []) j d).me ≡ (get_or xs j d).me =
        ap (λ (x : Rank J S T). x.me) (get_or_append_left xs (r ∷ []) d j (omega arith)) in
        let b : (get_or (xs ++ r ∷ []) k d).me ≡ (get_or xs k d).me = ap (λ (x : Rank J S T). x.me) (get_or_append_left xs (r ∷ []) d k (omega arith)) in
        let q = host.order j k d lt (omega arith) in omega (arith, a, b, q))));
    ones = All-append (IsOne whole) xs (r ∷ []) host.ones (All-cons (IsOne whole) r [] one (All-nil (IsOne whole)));
  }

  below_more : (xs left : List (Rank J S T)) (r : Rank J S T)
      → ((j k : ℕ) (d : Rank J S T) → j < length xs → k < length left → (get_or xs j d).me < (get_or left k d).me)
      → ((k : ℕ) (d : Rank J S T) → k < length left → r.me < (get_or left k d).me)
      → (j k : ℕ) (d : Rank J S T) → j < length (xs ++ r ∷ []) → k < length left → (get_or (xs ++ r ∷ []) j d).me < (get_or left k d).me
  below_more xs left r below least j k d h g = (let n = length-append xs (r ∷ []) in dite (ℕ_discrete j (length xs))
      (λ e. (let b : (get_or (xs ++ r ∷ []) j d).me ≡ r.me = ap (λ (i : ℕ). (get_or (xs ++ r ∷ []) i d).me) e
      ∙ ap (λ (x : Rank J S T). x.me) (seam xs r d) in let q = least k d g in omega (arith, b, q)))
      (λ ne. (let a : (get_or (xs ++ r ∷ []) j d).me ≡ (get_or xs j d).me =
      ap (λ (x : Rank J S T). x.me) (get_or_append_left xs (r ∷ []) d j (omega arith)) in let q = below j k d (omega arith) g in
      omega (arith, a, q))))

  tail_host : (whole left : List (Rank J S T)) (r : Rank J S T) → IsHost whole (r ∷ left) → IsHost whole left
  tail_host whole left r host = record {
    order = λ j k d lt h. host.order (suc j) (suc k) d (omega arith) (omega arith);
    ones = λ k d h. host.ones (suc k) d (omega arith);
  }

  least_of : (whole left : List (Rank J S T)) (r : Rank J S T) → IsHost whole (r ∷ left) → (k : ℕ) (d : Rank J S T) → k < length left
      → r.me < (get_or left k d).me
  least_of whole left r host k d h = host.order 0 (suc k) d (omega arith) (omega arith)

  pub parted_first : (whole before chosen rest left : List (Rank J S T)) → IsHost whole before → chosen ≡ [] → rest ≡ [] → left ≡ before
      → Parting whole before chosen rest left
  parted_first whole before chosen rest left host none no_rest all =
      let a : length chosen ≡ 0 = ap length none in
      let b : length rest ≡ 0 = ap length no_rest in
      record {
        left_is = subst (IsHost whole) (sym all) host;
        chosen_is = record { order = λ j k d lt h. absurd (omega arith); ones = λ k d h. absurd (omega arith) };
        rest_is = record { order = λ j k d lt h. absurd (omega arith); ones = λ k d h. absurd (omega arith) };
        chosen_below = λ j k d h g. absurd (omega arith);
        rest_below = λ j k d h g. absurd (omega arith);
        numbers = λ h. omega (
          arith,
          ap (sum_by (λ (r : Rank J S T). h r.me)) none,
          ap (sum_by (λ (r : Rank J S T). h r.me)) no_rest,
          ap (sum_by (λ (r : Rank J S T). h r.me)) all,
        );
      }

  pub parted_chosen : (whole before chosen rest left left' new : List (Rank J S T)) (r : Rank J S T) → left ≡ r ∷ left' → new ≡ chosen ++ r ∷ []
      → Parting whole before chosen rest left → Parting whole before new rest left'
  parted_chosen whole before chosen rest left left' new r e f old =
      let p : Parting whole before chosen rest (r ∷ left') = subst (Parting whole before chosen rest) e old in
      let least = least_of whole left' r p.left_is in
      subst (λ xs. Parting whole before xs rest left') (sym f) record {
        left_is = tail_host whole left' r p.left_is;
        chosen_is = host_more whole chosen r p.chosen_is (λ j d h. p.chosen_below j 0 d h (omega arith)) (p.left_is.ones 0 r (omega arith));
        rest_is = p.rest_is;
        chosen_below = below_more chosen left' r (λ j k d h g. p.chosen_below j (suc k) d h (omega arith)) least;
        rest_below = λ j k d h g. p.rest_below j (suc k) d h (omega arith);
        numbers = λ h. omega (
          arith,
          p.numbers h,
          sum_by-cons (λ (x : Rank J S T). h x.me) r left',
          sum_by-append (λ (x : Rank J S T). h x.me) chosen (r ∷ []),
          sum_by-cons (λ (x : Rank J S T). h x.me) r [],
        );
      }

  pub parted_rest : (whole before chosen rest left left' new : List (Rank J S T)) (r : Rank J S T) → left ≡ r ∷ left' → new ≡ rest ++ r ∷ []
      → Parting whole before chosen rest left → Parting whole before chosen new left'
  parted_rest whole before chosen rest left left' new r e f old =
      let p : Parting whole before chosen rest (r ∷ left') = subst (Parting whole before chosen rest) e old in
      let least = least_of whole left' r p.left_is in
      subst (λ xs. Parting whole before chosen xs left') (sym f) record {
        left_is = tail_host whole left' r p.left_is;
        chosen_is = p.chosen_is;
        rest_is = host_more whole rest r p.rest_is (λ j d h. p.rest_below j 0 d h (omega arith)) (p.left_is.ones 0 r (omega arith));
        chosen_below = λ j k d h g. p.chosen_below j (suc k) d h (omega arith);
        rest_below = below_more rest left' r (λ j k d h g. p.rest_below j (suc k) d h (omega arith)) least;
        numbers = λ h. omega (
          arith,
          p.numbers h,
          sum_by-cons (λ (x : Rank J S T). h x.me) r left',
          sum_by-append (λ (x : Rank J S T). h x.me) rest (r ∷ []),
          sum_by-cons (λ (x : Rank J S T). h x.me) r [],
        );
      }
