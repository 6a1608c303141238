-- Names that ascend still ascend with one more above the last.
use Rattle.disk_calls.proofs.Prelude.{◌≡◌, ℕ, ◌+◌, List, [], ◌∷◌, ◌++◌, length, Some, zero, suc, arith, true, refl, subst, sym, slice_get, AllByRecursion}
use Rattle.disk_calls.proofs.Prelude.{Ordering, Less, Equal, Greater, IsTotalOrder, nat_cmp_total, slice_cmp, lists_total, nat_cmp, is_lt, AreNames}
use Rattle.std.specs.List.Sorted.{IsStrictlySortedBy}

order : IsTotalOrder (slice_cmp nat_cmp)
order = lists_total nat_cmp_total

-- a name below the last of them is below the name that follows it
behind : (x : List ℕ) (names : List (List ℕ)) (k : ℕ) (last name : List ℕ) → slice_get names k ≡ Some last →
    slice_cmp nat_cmp last name ≡ Less → AllByRecursion (λ y. slice_cmp nat_cmp x y ≡ Less) names → slice_cmp nat_cmp x name ≡ Less
behind x [] k last name e h a = cc
behind x (y ∷ names) zero last name e h a = let same : y ≡ last = cc in order.trans x last name (subst (λ l. slice_cmp nat_cmp x l ≡ Less) same a.0) h
behind x (y ∷ names) (suc k) last name e h a = behind x names k last name e h a.1

one_more : (x : List ℕ) (names : List (List ℕ)) (name : List ℕ) → AllByRecursion (λ y. slice_cmp nat_cmp x y ≡ Less) names →
    slice_cmp nat_cmp x name ≡ Less → AllByRecursion (λ y. slice_cmp nat_cmp x y ≡ Less) (names ++ name ∷ [])
one_more x [] name a h = (h, tt)
one_more x (y ∷ names) name a h = (a.0, one_more x names name a.1 h)

-- a first name
pub first_name : (names : List (List ℕ)) (name : List ℕ) → length names ≡ 0 → IsStrictlySortedBy (slice_cmp nat_cmp) (names ++ name ∷ [])
unfolding IsStrictlySortedBy
first_name [] name e = (tt, tt)
first_name (x ∷ names) name e = absurd (omega arith)

-- a name above the one at the last place
pub next_name : (names : List (List ℕ)) (k : ℕ) (last name : List ℕ) → slice_get names k ≡ Some last → k + 1 ≡ length names
    → slice_cmp nat_cmp last name ≡ Less →
    IsStrictlySortedBy (slice_cmp nat_cmp) names → IsStrictlySortedBy (slice_cmp nat_cmp) (names ++ name ∷ [])
unfolding IsStrictlySortedBy
next_name [] k last name e n h s = (tt, tt)
next_name (x ∷ []) zero last name e n h s = let same : x ≡ last = cc in ((subst (λ l. slice_cmp nat_cmp l name ≡ Less) (sym same) h, tt), (tt, tt))
next_name (x ∷ []) (suc k) last name e n h s = absurd (omega arith)
next_name (x ∷ (y ∷ names)) zero last name e n h s = absurd (omega arith)
next_name (x ∷ (y ∷ names)) (suc k) last name e n h s =
    (one_more x (y ∷ names) name s.0 (behind x (y ∷ names) k last name e h s.0), next_name (y ∷ names) k last name e (omega arith) h s.1)

pub no_names : (path : List ℕ) → AreNames path []
unfolding IsStrictlySortedBy
no_names path = record { valid = λ k d h. absurd (omega arith); short = λ k d h. absurd (omega arith); ascend = tt }

pub less_from_lower : (o : Ordering) → is_lt o ≡ true → o ≡ Less
less_from_lower Less h = refl
less_from_lower Equal h = cc
less_from_lower Greater h = cc
