-- Paths that are apart can be put in path order.
use Rattle.tree_walk.proofs.Prelude.{◌≡◌, ℕ, ◌≤◌, List, [], ◌∷◌, refl, ap, ◌∙◌, arith, AllByRecursion, sum_by, IsPermutation, ordering_reverse, Ordering, Less}
use Rattle.tree_walk.proofs.Prelude.{Equal, Greater, sum_by-cons, sum_by-IsPermutation, IsPermutation-refl, IsPermutation-trans, IsPermutation-cons}
use Rattle.tree_walk.proofs.Prelude.{IsPermutation-insert, path_cmp, path_cmp_total, path_cmp_same}
use Rattle.std.specs.List.Sorted.{IsStrictlySortedBy}
use Rattle.tree_walk.proofs.Covers.{covers, covers-itself}
use Rattle.tree_walk.proofs.Same.{higher}

-- the paths in path order
pub record InOrder (paths : List (List ℕ)) : Type 0 where
  pub list : List (List ℕ)
  pub all : IsPermutation paths list
  pub ascend : IsStrictlySortedBy path_cmp list

-- a path put among those in path order
abbrev put : List ℕ → Ordering → List ℕ → List (List ℕ) → List (List ℕ) → List (List ℕ)
put x Greater y ys more = y ∷ more
put x _ y ys more = x ∷ y ∷ ys

abbrev among : List ℕ → List (List ℕ) → List (List ℕ)
among x [] = x ∷ []
among x (y ∷ ys) = put x (path_cmp x y) y ys (among x ys)

put_all : (x y : List ℕ) (ys : List (List ℕ)) → IsPermutation (x ∷ ys) (among x ys) → IsPermutation (x ∷ y ∷ ys) (among x (y ∷ ys))
put_all x y ys p = elim (path_cmp x y) as (λ c. IsPermutation (x ∷ y ∷ ys) (put x c y ys (among x ys))) [
  | Less ↦ IsPermutation-refl (x ∷ y ∷ ys)
  | Equal ↦ IsPermutation-refl (x ∷ y ∷ ys)
  | Greater ↦ IsPermutation-trans (x ∷ y ∷ ys) (y ∷ x ∷ ys) (y ∷ among x ys) (IsPermutation-insert (y ∷ ys) 1 x) (IsPermutation-cons y (x ∷ ys) (among x ys) p)
]

among_all : (x : List ℕ) (ys : List (List ℕ)) → IsPermutation (x ∷ ys) (among x ys)
among_all x [] = IsPermutation-refl (x ∷ [])
among_all x (y ∷ ys) = put_all x y ys (among_all x ys)

-- what is below x and the others is below all
among_above : (z x : List ℕ) (ys : List (List ℕ)) → path_cmp z x ≡ Less → AllByRecursion (λ y. path_cmp z y ≡ Less) ys →
    AllByRecursion (λ y. path_cmp z y ≡ Less) (among x ys)
among_above z x [] e h = (e, tt)
among_above z x (y ∷ ys) e h = elim (path_cmp x y) as (λ c. AllByRecursion (λ y. path_cmp z y ≡ Less) (put x c y ys (among x ys))) [
  | Less ↦ (e, h)
  | Equal ↦ (e, h)
  | Greater ↦ (h.0, among_above z x ys e h.1)
]

-- where x is none of them
among_ascends : (x : List ℕ) (ys : List (List ℕ)) → IsStrictlySortedBy path_cmp ys → sum_by (covers x) ys ≡ 0 → IsStrictlySortedBy path_cmp (among x ys)
unfolding IsStrictlySortedBy
among_ascends x [] s none = (tt, tt)
among_ascends x (y ∷ ys) s none =
    let parts = sum_by-cons (covers x) y ys in
    elim (path_cmp x y) as (λ c. path_cmp x y ≡ c → IsStrictlySortedBy path_cmp (put x c y ys (among x ys))) [
      | Less ↦ λ e. ((e, higher x y ys e s.0), s)
      | Equal ↦ λ e. absurd (omega (arith, none, parts, ap (covers x) (path_cmp_same x y e), covers-itself x))
      | Greater ↦ λ e. (
        among_above y x ys (path_cmp_total.antisymm y x ∙ ap ordering_reverse e) s.0,
        among_ascends x ys s.1 (omega (arith, none, parts)),
      )
    ] refl

pub in_order : (paths : List (List ℕ)) → ((x : List ℕ) → sum_by (covers x) paths ≤ 1) → InOrder paths
unfolding IsStrictlySortedBy
in_order [] apart = record { list = []; all = IsPermutation-refl []; ascend = tt }
in_order (p ∷ paths) apart =
    let rest = in_order paths (λ x. omega (arith, apart x, sum_by-cons (covers x) p paths)) in
    let none : sum_by (covers p) rest.list ≡ 0 =
    omega (arith, apart p, sum_by-cons (covers p) p paths, covers-itself p, sum_by-IsPermutation (covers p) paths rest.list rest.all) in
    record {
      list = among p rest.list;
      all = IsPermutation-trans (p ∷ paths) (p ∷ rest.list) (among p rest.list) (IsPermutation-cons p paths rest.list rest.all) (among_all p rest.list);
      ascend = among_ascends p rest.list rest.ascend none;
    }
