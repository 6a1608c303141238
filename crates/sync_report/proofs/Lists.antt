-- Lists, element by element.
use Rattle.sync_report.proofs.Prelude.{◌≡◌, Bool, true, false, cond, ◌||◌, List, [], ◌∷◌, filter, Some, refl, ap, ◌∙◌, sym, false≢true, or_parts, or_left}
use Rattle.sync_report.proofs.Prelude.{or_right, AllByRecursion, find, list_any}

-- an element that passes, with what is so of it
pub record Passing {X : Type 0} (f : X → Bool) (P : X → Type 0) (xs : List X) : Type 0 where
  pub one : X
  pub passes : f one ≡ true
  pub holds : P one
  pub found : find f xs ≡ Some one

pub passing : {X : Type 0} (f : X → Bool) (P : X → Type 0) (xs : List X) → AllByRecursion P xs → list_any f xs ≡ true → Passing f P xs
passing f P [] h e = absurd (false≢true e)
passing f P (x ∷ xs) h e = elim (f x) as (λ b. f x ≡ b → (b || list_any f xs) ≡ true → Passing f P (x ∷ xs)) [
  | true ↦ λ is _. record { one = x; passes = is; holds = h.0; found = ap (λ c. cond c (Some x) (find f xs)) is }
  | false ↦ λ is e.
      let p = passing f P xs h.1 e in
      record { one = p.one; passes = p.passes; holds = p.holds; found = ap (λ c. cond c (Some x) (find f xs)) is ∙ p.found }
] refl e

-- where each element that passes one test passes another
pub any_other : {X : Type 0} (f g : X → Bool) (xs : List X) → AllByRecursion (λ x. f x ≡ true → g x ≡ true) xs → list_any f xs ≡ true → list_any g xs ≡ true
any_other f g [] h e = e
any_other f g (x ∷ xs) h e = elim (f x) as (λ b. f x ≡ b → (b || list_any f xs) ≡ true → list_any g (x ∷ xs) ≡ true) [
  | true ↦ λ is _. or_left (g x) (list_any g xs) (h.0 is)
  | false ↦ λ _ e. or_right (g x) (list_any g xs) (any_other f g xs h.1 e)
] refl e

-- and where none passes
pub none_any : {X : Type 0} (f : X → Bool) (xs : List X) → AllByRecursion (λ x. f x ≡ false) xs → list_any f xs ≡ false
none_any f [] h = refl
none_any f (x ∷ xs) h = (λ i. h.0 i || none_any f xs h.1 i)

-- an element that a test keeps
pub kept : {X : Type 0} (p : X → Bool) (P : X → Type 0) (xs : List X) → AllByRecursion P xs → AllByRecursion (λ x. (p x ≡ true) × P x) (filter p xs)
kept p P [] h = tt
kept p P (x ∷ xs) h =
    elim (p x) as (λ b. p x ≡ b → AllByRecursion (λ x. (p x ≡ true) × P x) (cond b (x ∷ filter p xs) (filter p xs)))
    [ true ↦ λ is. ((is, h.0), kept p P xs h.1) | false ↦ λ _. kept p P xs h.1 ] refl

-- what fails a test is not among what it keeps
pub not_kept : {X : Type 0} (p f : X → Bool) (xs : List X) → list_any f (filter p xs) ≡ false → AllByRecursion (λ x. p x ≡ true → f x ≡ false) xs
not_kept p f [] e = tt
not_kept p f (x ∷ xs) e =
    elim (p x) as (λ b. p x ≡ b → list_any f (cond b (x ∷ filter p xs) (filter p xs)) ≡ false →
    AllByRecursion (λ x. p x ≡ true → f x ≡ false) (x ∷ xs)) [
      | true ↦ λ _ e. let parts = or_parts (f x) (list_any f (filter p xs)) e in ((λ _. parts.0), not_kept p f xs parts.1)
      | false ↦ λ is e. ((λ h. absurd (false≢true (sym is ∙ h))), not_kept p f xs e)
    ] refl e
