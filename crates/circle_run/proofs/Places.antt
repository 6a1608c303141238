-- Lists of ranks by their numbers.
use Rattle.circle_run.proofs.Prelude.{◌≡◌, ℕ, zero, suc, ◌+◌, ◌-◌, ◌<◌, ◌≤◌, refl, ap, ◌∙◌, arith, ◌==◌, Bool, List, [], ◌∷◌, length, get_or, eq-eqb, ne_eqb}
use Rattle.circle_run.proofs.Prelude.{sum_by, sum_by-cons, dite, ℕ_discrete, IsNonDecreasingBy, IsAscending, Rank, one_if, InPlace}

module _ {J S T : Type 0} where
  -- how many have this number
  abbrev counts : ℕ → List (Rank J S T) → ℕ
  counts v xs = sum_by (λ r. one_if (r.me == v)) xs

  counts_here : (v : ℕ) (x : Rank J S T) (xs : List (Rank J S T)) → x.me ≡ v → counts v (x ∷ xs) ≡ 1 + counts v xs
  counts_here v x xs e = sum_by-cons (λ (r : Rank J S T). one_if (r.me == v)) x xs ∙ ap (λ (b : Bool). one_if b + counts v xs) (eq-eqb x.me v e)

  counts_else : (v : ℕ) (x : Rank J S T) (xs : List (Rank J S T)) → (x.me ≡ v → ⊥) → counts v (x ∷ xs) ≡ counts v xs
  counts_else v x xs ne = (let a = sum_by-cons (λ (r : Rank J S T). one_if (r.me == v)) x xs in
      let b : one_if (x.me == v) ≡ 0 = ap one_if (ne_eqb x.me v ne) in omega arith)

  counts_more : (v : ℕ) (x : Rank J S T) (xs : List (Rank J S T)) → counts v xs ≤ counts v (x ∷ xs)
  counts_more v x xs = (let e = sum_by-cons (λ (r : Rank J S T). one_if (r.me == v)) x xs in omega arith)

  stands : (v : ℕ) (xs : List (Rank J S T)) (k : ℕ) (d : Rank J S T) → k < length xs → (get_or xs k d).me ≡ v → 1 ≤ counts v xs
  stands v [] k d h e = absurd (omega arith)
  stands v (x ∷ xs) zero d h e = (let a = counts_here v x xs e in omega arith)
  stands v (x ∷ xs) (suc k) d h e = (let a = stands v xs k d (omega arith) e in let b = counts_more v x xs in omega arith)

  stands_twice : (v : ℕ) (xs : List (Rank J S T)) (j k : ℕ) (d : Rank J S T) → j < k → k < length xs → (get_or xs j d).me ≡ v → (get_or xs k d).me ≡ v
      → 2 ≤ counts v xs
  stands_twice v [] j k d lt h e f = absurd (omega arith)
  stands_twice v (x ∷ xs) j zero d lt h e f = absurd (omega arith)
  stands_twice v (x ∷ xs) zero (suc k) d lt h e f = (let a = counts_here v x xs e in let b = stands v xs k d (omega arith) f in omega arith)
  stands_twice v (x ∷ xs) (suc j) (suc k) d lt h e f =
      (let a = stands_twice v xs j k d (omega arith) (omega arith) e f in let b = counts_more v x xs in omega arith)

  pub ascends : (xs : List (Rank J S T)) → IsNonDecreasingBy (λ (r : Rank J S T). r.me) xs → ((v : ℕ) → counts v xs ≤ 1) → IsAscending xs
  ascends xs up once j k d lt h =
      let a = up j k d (omega arith) h in
      dite (ℕ_discrete (get_or xs j d).me (get_or xs k d).me)
      (λ e. absurd (let t = stands_twice (get_or xs k d).me xs j k d lt h e refl in let o = once (get_or xs k d).me in omega arith))
      (λ ne. omega (arith, a, ne))

  -- ranks that stand at their numbers, from a on
  abbrev From : ℕ → List (Rank J S T) → Type 0
  From a xs = (k : ℕ) (d : Rank J S T) → k < length xs → (get_or xs k d).me ≡ a + k

  from_tail : (a : ℕ) (x : Rank J S T) (xs : List (Rank J S T)) → From a (x ∷ xs) → From (suc a) xs
  from_tail a x xs f k d h = (let e = f (suc k) d (omega arith) in omega (arith, e))

  none_before : (a v : ℕ) (xs : List (Rank J S T)) → From a xs → v < a → counts v xs ≡ 0
  none_before a v [] f lt = refl
  none_before a v (x ∷ xs) f lt = counts_else v x xs (λ e. (let g : x.me ≡ a + 0 = f 0 x (omega arith) in absurd (omega arith)))
      ∙ none_before (suc a) v xs (from_tail a x xs f) (omega arith)

  once_from : (a v : ℕ) (xs : List (Rank J S T)) → From a xs → counts v xs ≤ 1
  once_from a v [] f = omega arith
  once_from a v (x ∷ xs) f =
      let g : x.me ≡ a + 0 = f 0 x (omega arith) in
      dite (ℕ_discrete x.me v)
      (λ e. (let b = counts_here v x xs e in let n = none_before (suc a) v xs (from_tail a x xs f) (omega arith) in omega arith))
      (λ ne. (let b = counts_else v x xs ne in let n = once_from (suc a) v xs (from_tail a x xs f) in omega arith))

  pub once_whole : (whole : List (Rank J S T)) → InPlace whole → (v : ℕ) → counts v whole ≤ 1
  once_whole whole place v = once_from 0 v whole (λ k d h. (let e = place k d h in omega (arith, e)))

  -- ascending numbers below their count stand in place
  at_least : (xs : List (Rank J S T)) → IsAscending xs → (k : ℕ) (d : Rank J S T) → k < length xs → k ≤ (get_or xs k d).me
  at_least xs up zero d h = omega arith
  at_least xs up (suc k) d h = (let a = at_least xs up k d (omega arith) in let b = up k (suc k) d (omega arith) h in omega arith)

  at_most : (xs : List (Rank J S T)) → IsAscending xs → ((k : ℕ) (d : Rank J S T) → k < length xs → (get_or xs k d).me < length xs)
      → (j k : ℕ) (d : Rank J S T) → k + j + 1 ≡ length xs → (get_or xs k d).me ≤ k
  at_most xs up few zero k d e = (let a = few k d (omega arith) in omega arith)
  at_most xs up few (suc j) k d e = (let a = at_most xs up few j (suc k) d (omega arith) in let b = up k (suc k) d (omega arith) (omega arith) in omega arith)

  pub in_place : (xs : List (Rank J S T)) → IsAscending xs → ((k : ℕ) (d : Rank J S T) → k < length xs → (get_or xs k d).me < length xs) → InPlace xs
  in_place xs up few k d h = (let a = at_least xs up k d h in let b = at_most xs up few (length xs - (k + 1)) k d (omega arith) in omega arith)

  pub same_numbers : (h : ℕ → ℕ) (before after : List (Rank J S T)) → length after ≡ length before
      → ((j : ℕ) (d : Rank J S T) → j < length before → (get_or after j d).me ≡ (get_or before j d).me)
      → sum_by (λ (r : Rank J S T). h r.me) after ≡ sum_by (λ (r : Rank J S T). h r.me) before
  same_numbers h [] [] n e = refl
  same_numbers h [] (y ∷ ys) n e = absurd (omega arith)
  same_numbers h (x ∷ xs) [] n e = absurd (omega arith)
  same_numbers h (x ∷ xs) (y ∷ ys) n e =
      let rest = same_numbers h xs ys (omega arith) (λ j d i. e (suc j) d (omega arith)) in
      omega (arith, sum_by-cons (λ (r : Rank J S T). h r.me) x xs, sum_by-cons (λ (r : Rank J S T). h r.me) y ys, ap h (e 0 x (omega arith)), rest)

  pub ones : (xs : List (Rank J S T)) → sum_by (λ (r : Rank J S T). 1) xs ≡ length xs
  ones [] = refl
  ones (x ∷ xs) = omega (arith, sum_by-cons (λ (r : Rank J S T). 1) x xs, ones xs)
