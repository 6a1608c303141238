-- Lists that ascend by a total order: one is fixed by its elements.
use Rattle.tool_text.proofs.Prelude.{◌≡◌, ℕ, zero, suc, ◌<◌, ◌⊎◌, inl, inr, List, [], ◌∷◌, length, Contains, refl, sym, ap, ◌∙◌, subst, arith, slice_index_or}
use Rattle.tool_text.proofs.Prelude.{IsTotalOrder, IsStrictlySortedBy, ordering_reverse, Ordering, Less, Greater, All-contains, sorted_tail, All-after_first}

module _ {K : Type 0} where
  place_cases : (x : K) (xs : List K) (y : K) (k : ℕ) → k < length (x ∷ xs) → slice_index_or (x ∷ xs) k y ≡ y → (x ≡ y) ⊎ Contains xs y
  place_cases x xs y zero below is = inl is
  place_cases x xs y (suc k) below is = inr (k, omega arith, is)

  first_or_later : (x : K) (xs : List K) (y : K) → Contains (x ∷ xs) y → (x ≡ y) ⊎ Contains xs y
  first_or_later x xs y h = place_cases x xs y h.0 h.1 h.2

  pub first_in : (x : K) (xs : List K) → Contains (x ∷ xs) x
  first_in x xs = (0, omega arith, refl)

  later_in : (x : K) (xs : List K) (y : K) → Contains xs y → Contains (x ∷ xs) y
  later_in x xs y h = (suc h.0, omega arith, h.2)

  pub none_in : (x : K) → Contains [] x → ⊥
  none_in x h = omega arith

module _ {K : Type 0} {cmp : K → K → Ordering} (o : IsTotalOrder cmp) where
  not_below_itself : (x : K) → cmp x x ≡ Less → ⊥
  not_below_itself x e = let turned : cmp x x ≡ Greater = o.antisymm x x ∙ ap ordering_reverse e in cc

  below_later : (x : K) (xs : List K) (y : K) → IsStrictlySortedBy cmp (x ∷ xs) → Contains xs y → cmp x y ≡ Less
  below_later x xs y s h = All-contains (λ z. cmp x z ≡ Less) xs y (All-after_first cmp x xs s) h

  one_first : (x : K) (xs : List K) (y : K) (ys : List K) →
      IsStrictlySortedBy cmp (x ∷ xs) → IsStrictlySortedBy cmp (y ∷ ys) → Contains (y ∷ ys) x → Contains (x ∷ xs) y → x ≡ y
  one_first x xs y ys s t h k = elim (first_or_later y ys x h) [
    | inl same ↦ sym same
    | inr behind ↦ elim (first_or_later x xs y k) [
      | inl same ↦ same
      | inr further ↦ absurd (not_below_itself x (o.trans x y x (below_later x xs y s further) (below_later y ys x t behind)))
    ]
  ]

  rest_in : (x : K) (xs : List K) (y : K) (ys : List K) →
      x ≡ y → IsStrictlySortedBy cmp (x ∷ xs) → ((z : K) → Contains (x ∷ xs) z → Contains (y ∷ ys) z) → (z : K) → Contains xs z → Contains ys z
  rest_in x xs y ys same s f z h = elim (first_or_later y ys z (f z (later_in x xs z h))) [
    | inl first ↦
        let itself : x ≡ z = same ∙ first in
        absurd (not_below_itself z (subst (λ w. cmp w z ≡ Less) itself (below_later x xs z s h)))
    | inr later ↦ later
  ]

  pub fixed_by_elements : (xs ys : List K) → IsStrictlySortedBy cmp xs → IsStrictlySortedBy cmp ys →
      ((z : K) → Contains xs z → Contains ys z) → ((z : K) → Contains ys z → Contains xs z) → xs ≡ ys
  fixed_by_elements [] [] s t f g = refl
  fixed_by_elements [] (y ∷ ys) s t f g = absurd (none_in y (g y (first_in y ys)))
  fixed_by_elements (x ∷ xs) [] s t f g = absurd (none_in x (f x (first_in x xs)))
  fixed_by_elements (x ∷ xs) (y ∷ ys) s t f g =
      let same = one_first x xs y ys s t (f x (first_in x xs)) (g y (first_in y ys)) in
      let rest = fixed_by_elements xs ys (sorted_tail cmp x xs s) (sorted_tail cmp y ys t) (rest_in x xs y ys same s f) (rest_in y ys x xs (sym same) t g) in
      λ i. same i ∷ rest i
