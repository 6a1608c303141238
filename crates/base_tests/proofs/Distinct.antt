-- Paths of which no two are the same.
use Rattle.base_tests.proofs.Prelude.{◌≡◌, ℕ, zero, suc, Bool, true, false, not, ◌&&◌, ◌||◌, refl, ap, ◌∙◌, sym, List, [], ◌∷◌, Some, slice_get, false≢true}
use Rattle.base_tests.proofs.Prelude.{get_or_from_slice_get, nat_eq, list_any, pointwise, nat_list_eq_equiv, all_differ}

abbrev pub AreDistinct : List (List ℕ) → Type 0
AreDistinct paths = (i j : ℕ) (x : List ℕ) → slice_get paths i ≡ Some x → slice_get paths j ≡ Some x → i ≡ j

none : (a b : Bool) → (not a && b) ≡ true → a ≡ false
none true b is = sym is
none false b is = refl

later : (a b : Bool) → (not a && b) ≡ true → b ≡ true
later true b is = absurd (false≢true is)
later false b is = is

-- what stands in a list is found in it
found : (paths : List (List ℕ)) (j : ℕ) (x : List ℕ) → slice_get paths j ≡ Some x → list_any (λ y. pointwise nat_eq y x) paths ≡ true
found [] j x at = cc
found (p ∷ paths) zero x at = ap (λ b. b || list_any (λ y. pointwise nat_eq y x) paths) (same (get_or_from_slice_get (p ∷ paths) 0 x x at))
  where
    same : p ≡ x → pointwise nat_eq p x ≡ true
    same is = ap (λ y. pointwise nat_eq y x) is ∙ nat_list_eq_equiv.refl x
found (p ∷ paths) (suc j) x at = or_true (pointwise nat_eq p x) _ (found paths j x at)
  where
    or_true : (a b : Bool) → b ≡ true → (a || b) ≡ true
    or_true true b is = refl
    or_true false b is = is

-- what stands at the front stands nowhere behind
once : (p : List ℕ) (rest : List (List ℕ)) (j : ℕ) → all_differ (p ∷ rest) ≡ true → slice_get rest j ≡ Some p → ⊥
once p rest j differ at = false≢true (sym (none (list_any (λ q. pointwise nat_eq q p) rest) (all_differ rest) differ) ∙ found rest j p at)

-- where none stands again behind itself, two places with the same path are one
pub from_differ : (paths : List (List ℕ)) → all_differ paths ≡ true → AreDistinct paths
from_differ [] differ i j x here there = cc
from_differ (p ∷ rest) differ zero zero x here there = refl
from_differ (p ∷ rest) differ zero (suc j) x here there = absurd (once p rest j differ (there ∙ sym here))
from_differ (p ∷ rest) differ (suc i) zero x here there = absurd (once p rest i differ (here ∙ sym there))
from_differ (p ∷ rest) differ (suc i) (suc j) x here there =
    ap suc (from_differ rest (later (list_any (λ q. pointwise nat_eq q p) rest) (all_differ rest) differ) i j x here there)
