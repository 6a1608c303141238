-- Members of a list, of a part of it, and of its image.
use Rattle.tree_sync.proofs.Prelude.{◌≡◌, ℕ, zero, suc, ◌<◌, Bool, true, false, cond, List, [], ◌∷◌, length, map, filter, get_or, Some, refl, ap, ◌∙◌, sym}
use Rattle.tree_sync.proofs.Prelude.{subst, arith, false≢true, false_from_ne_true, length-map, get_or-map, recursion_from_All, All-from_recursion, list_any_at}
use Rattle.tree_sync.proofs.Prelude.{All, AllByRecursion, Contains, find, list_any}

-- an element that passes makes a test of all pass
pub some_on : {X : Type 0} (f : X → Bool) (xs : List X) (x : X) → Contains xs x → f x ≡ true → list_any f xs ≡ true
some_on f xs x c t = list_any_at f xs c.0 x c.1 (ap f c.2 ∙ t)

pub one_off : {X : Type 0} (f : X → Bool) (xs : List X) (x : X) → list_any f xs ≡ false → Contains xs x → f x ≡ false
one_off f xs x e c = false_from_ne_true (f x) (λ t. false≢true (sym e ∙ some_on f xs x c t))

pub next : {X : Type 0} (y : X) (xs : List X) (x : X) → Contains xs x → Contains (y ∷ xs) x
next y xs x c = (suc c.0, omega (arith, c.1), c.2)

-- an element that a search finds is there, and passes
pub record Found {X : Type 0} (p : X → Bool) (xs : List X) (x : X) : Type 0 where
  pub is_in : Contains xs x
  pub so : p x ≡ true

pub found_by : {X : Type 0} (p : X → Bool) (xs : List X) (x : X) → find p xs ≡ Some x → Found p xs x
found_by p [] x e = absurd (cc)
found_by p (y ∷ xs) x e =
    elim (p y) as (λ b. p y ≡ b → cond b (Some y) (find p xs) ≡ Some x → Found p (y ∷ xs) x) [
      | true ↦ λ s e. let same : y ≡ x = cc in record { is_in = (0, omega arith, same); so = ap p (sym same) ∙ s }
      | false ↦ λ s e. let f = found_by p xs x e in record { is_in = next y xs x f.is_in; so = f.so }
    ] refl e

-- an element that passes is kept
kept_at : {X : Type 0} (p : X → Bool) (xs : List X) (k : ℕ) (x : X) → k < length xs → get_or xs k x ≡ x → p x ≡ true → Contains (filter p xs) x
kept_at p [] k x l is s = absurd (omega (arith, l))
kept_at p (y ∷ xs) zero x l is s =
    subst (λ b. Contains (cond b (y ∷ filter p xs) (filter p xs)) x) (sym (ap p is ∙ s)) (0, omega arith, is)
kept_at p (y ∷ xs) (suc k) x l is s =
    let later = kept_at p xs k x (omega (arith, l)) is s in
    elim (p y) as (λ b. Contains (cond b (y ∷ filter p xs) (filter p xs)) x) [ true ↦ next y (filter p xs) x later | false ↦ later ]

pub in_kept : {X : Type 0} (p : X → Bool) (xs : List X) (x : X) → Contains xs x → p x ≡ true → Contains (filter p xs) x
in_kept p xs x c s = kept_at p xs c.0 x c.1 c.2 s

pub in_map : {X Y : Type 0} (f : X → Y) (xs : List X) (x : X) → Contains xs x → Contains (map f xs) (f x)
in_map f xs x c = (c.0, omega (arith, c.1, length-map xs f), get_or-map f xs c.0 x (f x) c.1 ∙ ap f c.2)

-- elements that are kept pass
passes : {X : Type 0} (p : X → Bool) (P Q : X → Type 0) → ((x : X) → p x ≡ true → P x → Q x) → (xs : List X) → AllByRecursion P xs →
    AllByRecursion Q (filter p xs)
passes p P Q t [] h = tt
passes p P Q t (x ∷ xs) h =
    elim (p x) as (λ b. p x ≡ b → AllByRecursion Q (cond b (x ∷ filter p xs) (filter p xs))) [
      | true ↦ λ e. (t x e h.0, passes p P Q t xs h.1)
      | false ↦ λ e. passes p P Q t xs h.1
    ] refl

-- a property of all elements that pass is one of the list that is kept, or of none
pub of_kept : {X : Type 0} (b : Bool) (p : X → Bool) (P Q : X → Type 0) (xs : List X) → ((x : X) → p x ≡ true → P x → Q x) → All P xs →
    All Q (cond b (filter p xs) [])
of_kept b p P Q xs t h =
    elim b as (λ b. All Q (cond b (filter p xs) [])) [
      | true ↦ All-from_recursion Q (filter p xs) (passes p P Q t xs (recursion_from_All P xs h))
      | false ↦ All-from_recursion Q [] tt
    ]
