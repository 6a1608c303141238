-- Lists that ascend strictly, and one element more behind them.
use Rattle.flat_list.proofs.Prelude.{◌≡◌, List, [], ◌∷◌, ◌++◌, AllByRecursion, Ordering, Less, all_more}
use Rattle.std.specs.List.Sorted.{IsStrictlySortedBy}

module _ {K : Type 0} (cmp : K → K → Ordering) where
  all_front : (P : K → Type 0) (xs ys : List K) → AllByRecursion P (xs ++ ys) → AllByRecursion P xs
  all_front P [] ys h = tt
  all_front P (x ∷ xs) ys h = (h.0, all_front P xs ys h.1)

  pub sorted_front : (xs ys : List K) → IsStrictlySortedBy cmp (xs ++ ys) → IsStrictlySortedBy cmp xs
  unfolding IsStrictlySortedBy
  sorted_front [] ys h = tt
  sorted_front (x ∷ xs) ys h = (all_front (λ y. cmp x y ≡ Less) xs ys h.0, sorted_front xs ys h.1)

  pub sorted_one : (x : K) → IsStrictlySortedBy cmp (x ∷ [])
  unfolding IsStrictlySortedBy
  sorted_one x = (tt, tt)

  pub sorted_none : IsStrictlySortedBy cmp []
  unfolding IsStrictlySortedBy
  sorted_none = tt

  all_at : (P : K → Type 0) (xs : List K) (y : K) → AllByRecursion P (xs ++ y ∷ []) → P y
  all_at P [] y h = h.0
  all_at P (x ∷ xs) y h = all_at P xs y h.1

  -- the last of them and one behind it
  pub sorted_last : (xs : List K) (x y : K) → IsStrictlySortedBy cmp ((xs ++ x ∷ []) ++ y ∷ []) → cmp x y ≡ Less
  unfolding IsStrictlySortedBy
  sorted_last [] x y h = h.0.0
  sorted_last (w ∷ xs) x y h = sorted_last xs x y h.1

  pub sorted_more : ((x y z : K) → cmp x y ≡ Less → cmp y z ≡ Less → cmp x z ≡ Less) → (xs : List K) (x y : K) →
      IsStrictlySortedBy cmp (xs ++ x ∷ []) → cmp x y ≡ Less → IsStrictlySortedBy cmp ((xs ++ x ∷ []) ++ y ∷ [])
  unfolding IsStrictlySortedBy
  sorted_more trans [] x y h lt = ((lt, tt), (tt, tt))
  sorted_more trans (w ∷ xs) x y h lt =
      let below = λ (y : K). cmp w y ≡ Less in
      let here = trans w x y (all_at below xs x h.0) lt in
      (all_more below (xs ++ x ∷ []) y h.0 here, sorted_more trans xs x y h.1 lt)
