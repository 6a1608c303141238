-- Two lists in order that hold the same paths as often are equal.
use Rattle.tree_walk.proofs.Prelude.{◌≡◌, ℕ, false, List, [], ◌∷◌, refl, ap, ◌∙◌, sym, arith, cond, eqb, AllByRecursion, sum_by, sum_by-cons, pointwise, is_eq}
use Rattle.tree_walk.proofs.Prelude.{ordering_reverse, Less, Equal, Greater, path_cmp, path_cmp_total, path_cmp_same, path_cmp_ties}
use Rattle.std.specs.List.Sorted.{IsStrictlySortedBy}
use Rattle.tree_walk.proofs.Covers.{one}
use Rattle.tree_walk.proofs.Once.{one-same}

pub unequal : (x y : List ℕ) → path_cmp x y ≡ Less → pointwise eqb x y ≡ false
unequal x y e = path_cmp_ties x y ∙ ap is_eq e

one-less : (x y : List ℕ) → path_cmp x y ≡ Less → one x y ≡ 0
one-less x y e = ap (λ b. cond b 1 0) (unequal x y e)

none_above : (x : List ℕ) (ys : List (List ℕ)) → AllByRecursion (λ y. path_cmp x y ≡ Less) ys → sum_by (one x) ys ≡ 0
none_above x [] h = refl
none_above x (y ∷ ys) h = omega (arith, sum_by-cons (one x) y ys, one-less x y h.0, none_above x ys h.1)

pub higher : (x y : List ℕ) (ys : List (List ℕ)) → path_cmp x y ≡ Less → AllByRecursion (λ z. path_cmp y z ≡ Less) ys →
    AllByRecursion (λ z. path_cmp x z ≡ Less) ys
higher x y [] e h = tt
higher x y (z ∷ ys) e h = (path_cmp_total.trans x y z e h.0, higher x y ys e h.1)

first_less : (x y : List ℕ) (xs ys : List (List ℕ)) → AllByRecursion (λ z. path_cmp y z ≡ Less) ys →
    ((k : List ℕ → ℕ) → sum_by k (x ∷ xs) ≡ sum_by k (y ∷ ys)) → path_cmp x y ≡ Less → ⊥
first_less x y xs ys h e l =
    let self : one x x ≡ 1 = one-same x x refl in
    let none : sum_by (one x) (y ∷ ys) ≡ 0 = none_above x (y ∷ ys) (l, higher x y ys l h) in
    omega (arith, sum_by-cons (one x) x xs, self, none, e (one x))

pub same_paths : (xs ys : List (List ℕ)) → IsStrictlySortedBy path_cmp xs → IsStrictlySortedBy path_cmp ys →
    ((k : List ℕ → ℕ) → sum_by k xs ≡ sum_by k ys) → xs ≡ ys
unfolding IsStrictlySortedBy
same_paths [] [] s t e = refl
same_paths [] (y ∷ ys) s t e = absurd (omega (arith, e (λ z. 1), sum_by-cons (λ (z : List ℕ). 1) y ys))
same_paths (x ∷ xs) [] s t e = absurd (omega (arith, e (λ z. 1), sum_by-cons (λ (z : List ℕ). 1) x xs))
same_paths (x ∷ xs) (y ∷ ys) s t e =
    elim (path_cmp x y) as (λ c. path_cmp x y ≡ c → (x ∷ xs) ≡ (y ∷ ys)) [
      | Less ↦ λ l. absurd (first_less x y xs ys t.0 e l)
      | Greater ↦ λ g. absurd (first_less y x ys xs s.0 (λ k. sym (e k)) (path_cmp_total.antisymm y x ∙ ap ordering_reverse g))
      | Equal ↦ λ q.
          let first = path_cmp_same x y q in
          let rest = same_paths xs ys s.1 t.1 (λ k. omega (arith, e k, sum_by-cons k x xs, sum_by-cons k y ys, ap k first)) in
          λ i. first i ∷ rest i
    ] refl
