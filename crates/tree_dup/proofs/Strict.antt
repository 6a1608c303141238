-- Paths in order, each of which stands once, ascend strictly.
use Rattle.tree_dup.proofs.Prelude.{◌≡◌, ℕ, zero, suc, ◌<◌, ◌≤◌, Bool, true, false, List, [], ◌∷◌, length, get_or, refl, sym, ap, subst, arith, eqb, All}
use Rattle.tree_dup.proofs.Prelude.{IsSorted, is_lt, Ordering, Less, Equal, Greater, AllByRecursion, pointwise, bytes_decides, ordering_reverse, false≢true}
use Rattle.tree_dup.proofs.Prelude.{recursion_from_All, ranks_by, sorted_far, path_cmp, path_cmp_total, path_cmp_same, times, at_itself, same}
use Rattle.std.specs.List.Sorted.{IsStrictlySortedBy}
use Rattle.tree_dup.proofs.Piled.{one_if, times-cons}

-- no path comes before one that stands before it
abbrev Far : List (List ℕ) → Type 0
Far xs = (i j : ℕ) (d : List ℕ) → i ≤ j → j < length xs → is_lt (path_cmp (get_or xs j d) (get_or xs i d)) ≡ false

pub far : (xs : List (List ℕ)) → IsSorted path_cmp xs → Far xs
far xs up = sorted_far (λ x y. is_lt (path_cmp x y)) (ranks_by path_cmp_total (λ x. x)) xs up

pub stands : (x : List ℕ) (xs : List (List ℕ)) (k : ℕ) (d : List ℕ) → k < length xs → get_or xs k d ≡ x → 0 < times x xs
stands x [] k d l e = absurd (omega arith)
stands x (y ∷ ys) zero d l e =
    let here : pointwise eqb x y ≡ true = (bytes_decides x y).1 (sym e) in
    omega (arith, times-cons x y ys, ap one_if here)
stands x (y ∷ ys) (suc k) d l e = let rest = stands x ys k d (omega arith) e in omega (arith, times-cons x y ys)

before : (o p : Ordering) → o ≡ ordering_reverse p → is_lt p ≡ false → (p ≡ Equal → ⊥) → o ≡ Less
before o Less e f g = absurd (false≢true (sym f))
before o Equal e f g = absurd (g refl)
before o Greater e f g = e

pub strict : (xs : List (List ℕ)) → IsSorted path_cmp xs → ((p : List ℕ) → times p xs ≤ 1) → IsStrictlySortedBy path_cmp xs
unfolding IsStrictlySortedBy
strict xs up once = by xs (far xs up) once
  where
    by : (xs : List (List ℕ)) → Far xs → ((p : List ℕ) → times p xs ≤ 1) → IsStrictlySortedBy path_cmp xs
    by [] up once = tt
    by (x ∷ xs) up once =
        let first : All (λ y. path_cmp x y ≡ Less) xs =
        λ k d l. before (path_cmp x (get_or xs k d)) (path_cmp (get_or xs k d) x) (path_cmp_total.antisymm x (get_or xs k d))
        (up 0 (suc k) d (omega arith) (omega arith))
        (λ e. let again = stands x xs k d l (path_cmp_same (get_or xs k d) x e) in
        let o = once x in
        absurd (omega (arith, times-cons x x xs, ap one_if (at_itself x)))) in (
          recursion_from_All (λ y. path_cmp x y ≡ Less) xs first,
          by xs (λ i j d l m. up (suc i) (suc j) d (omega arith) (omega arith)) (λ p. let o = once p in omega (arith, times-cons p x xs)),
        )

-- ---- and the other way round

not_less : (o : Ordering) → o ≡ ordering_reverse o → o ≡ Less → ⊥
not_less Less e f = cc
not_less _ e f = cc

none_behind : (x : List ℕ) (xs : List (List ℕ)) → AllByRecursion (λ y. path_cmp x y ≡ Less) xs → times x xs ≡ 0
none_behind x [] h = refl
none_behind x (y ∷ ys) h = by (pointwise eqb x y) refl (none_behind x ys h.1)
  where
    by : (b : Bool) → pointwise eqb x y ≡ b → times x ys ≡ 0 → times x (y ∷ ys) ≡ 0
    by true e rest = absurd (not_less (path_cmp x x) (path_cmp_total.antisymm x x) (subst (λ z. path_cmp x z ≡ Less) (sym (same x y e)) h.0))
    by false e rest = omega (arith, times-cons x y ys, ap one_if e)

pub stands_once : (xs : List (List ℕ)) (p : List ℕ) → IsStrictlySortedBy path_cmp xs → times p xs ≤ 1
unfolding IsStrictlySortedBy
stands_once [] p s = omega arith
stands_once (x ∷ xs) p s = by (pointwise eqb p x) refl (stands_once xs p s.1)
  where
    by : (b : Bool) → pointwise eqb p x ≡ b → times p xs ≤ 1 → times p (x ∷ xs) ≤ 1
    by true e rest =
        let none : times p xs ≡ 0 = subst (λ q. times q xs ≡ 0) (sym (same p x e)) (none_behind x xs s.0) in
        omega (arith, times-cons p x xs, ap one_if e)
    by false e rest = omega (arith, times-cons p x xs, ap one_if e)
