-- What is chosen of a list stands in its order and has its shapes.
use Rattle.run_entries.proofs.Prelude.{◌≡◌, ℕ, Bool, true, false, List, [], ◌∷◌, filter, cond, subst, sym, All, AllByRecursion, Less, recursion_from_All}
use Rattle.run_entries.proofs.Prelude.{All-from_recursion, path_cmp, Entry, paths}
use Rattle.std.specs.List.Sorted.{IsStrictlySortedBy}

one_of : {X : Type 0} (P : X → Type 0) (b : Bool) (x y : X) → P x → P y → P (cond b x y)
one_of P true x y h g = h
one_of P false x y h g = g

all_kept : (P : Entry → Type 0) (p : Entry → Bool) (es : List Entry) → AllByRecursion P es → AllByRecursion P (filter p es)
all_kept P p [] h = tt
all_kept P p (e ∷ es) h = let rest = all_kept P p es h.1 in one_of (AllByRecursion P) (p e) (e ∷ filter p es) (filter p es) (h.0, rest) rest

less_kept : (x : List ℕ) (p : Entry → Bool) (es : List Entry) → AllByRecursion (λ z. path_cmp x z ≡ Less) (paths es) →
    AllByRecursion (λ z. path_cmp x z ≡ Less) (paths (filter p es))
less_kept x p [] h = tt
less_kept x p (e ∷ es) h =
    let rest = less_kept x p es h.1 in
    one_of (λ fs. AllByRecursion (λ z. path_cmp x z ≡ Less) (paths fs)) (p e) (e ∷ filter p es) (filter p es) (h.0, rest) rest

pub order_kept : (p : Entry → Bool) (es : List Entry) → IsStrictlySortedBy path_cmp (paths es) → IsStrictlySortedBy path_cmp (paths (filter p es))
unfolding IsStrictlySortedBy
order_kept p [] s = tt
order_kept p (e ∷ es) s =
    let rest = order_kept p es s.1 in
    one_of (λ fs. IsStrictlySortedBy path_cmp (paths fs)) (p e) (e ∷ filter p es) (filter p es) (less_kept e.path p es s.0, rest) rest

pub chosen_ascends : (p : Entry → Bool) (es chosen : List Entry) → chosen ≡ filter p es → IsStrictlySortedBy path_cmp (paths es) →
    IsStrictlySortedBy path_cmp (paths chosen)
chosen_ascends p es chosen is s = subst (λ fs. IsStrictlySortedBy path_cmp (paths fs)) (sym is) (order_kept p es s)

pub chosen_holds : (P : Entry → Type 0) (p : Entry → Bool) (es chosen : List Entry) → chosen ≡ filter p es → All P es → All P chosen
chosen_holds P p es chosen is h = subst (λ fs. All P fs) (sym is) (All-from_recursion P (filter p es) (all_kept P p es (recursion_from_All P es h)))
