-- What stands in a list of paths, and what is in one that does.
use Rattle.tree_walk.proofs.Prelude.{◌≡◌, ◌⊎◌, inl, inr, ⊎_elim, ℕ, ◌<◌, ◌≤◌, Bool, true, false, ◌||◌, List, [], ◌∷◌, length, get_or, zero, suc, cond, refl, ap}
use Rattle.tree_walk.proofs.Prelude.{◌∙◌, sym, subst, arith, AllByRecursion, Contains, list_any, count_by, false≢true, sum_by-cons, is_in, is_in_some}
use Rattle.tree_walk.proofs.Prelude.{all_weaker}

abbrev pub In : List ℕ → List (List ℕ) → Type 0
In x [] = ⊥
In x (y ∷ ys) = (x ≡ y) ⊎ In x ys

pub in_list : (xs : List (List ℕ)) (x : List ℕ) → Contains xs x → In x xs
in_list xs x c = at xs c.0 x c.1 c.2
  where
    at : (xs : List (List ℕ)) (k : ℕ) (x : List ℕ) → k < length xs → get_or xs k x ≡ x → In x xs
    at [] k x h e = absurd (omega (arith, h))
    at (y ∷ ys) zero x h e = inl (sym e)
    at (y ∷ ys) (suc k) x h e = inr (at ys k x (omega (arith, h)) e)

pub of_all : (P : List ℕ → Type 0) (xs : List (List ℕ)) (x : List ℕ) → AllByRecursion P xs → In x xs → P x
of_all P [] x h i = absurd i
of_all P (y ∷ ys) x h i = ⊎_elim (λ e. subst P (sym e) h.0) (λ j. of_all P ys x h.1 j) i

pub each_in : (xs : List (List ℕ)) → AllByRecursion (λ x. In x xs) xs
each_in [] = tt
each_in (x ∷ xs) = (inl refl, all_weaker (λ y. In y xs) (λ y. In y (x ∷ xs)) (λ y i. inr i) xs (each_in xs))

-- a path of the list that x is in
pub record Above (x : List ℕ) (ps : List (List ℕ)) : Type 0 where
  pub path : List ℕ
  pub stands : In path ps
  pub is : is_in x path ≡ true

pub above : (x : List ℕ) (ps : List (List ℕ)) → is_in_some ps x ≡ true → Above x ps
above x [] e = absurd (false≢true e)
above x (p ∷ ps) e =
    elim (is_in x p) as (λ b. is_in x p ≡ b → (b || list_any (is_in x) ps) ≡ true → Above x (p ∷ ps)) [
      | true ↦ λ h d. record { path = p; stands = inl refl; is = h }
      | false ↦ λ h d. let r = above x ps d in record { path = r.path; stands = inr r.stands; is = r.is }
    ] refl e

abbrev as_number : Bool → ℕ
as_number b = cond b 1 0

one_is : (x p q : List ℕ) → p ≡ q → is_in x p ≡ true → as_number (is_in x q) ≡ 1
one_is x p q e h = ap as_number (subst (λ r. is_in x r ≡ true) e h)

counts : (x p : List ℕ) (ps : List (List ℕ)) → In p ps → is_in x p ≡ true → 1 ≤ count_by (is_in x) ps
counts x p [] i h = absurd i
counts x p (q ∷ ps) i h =
    let parts = sum_by-cons (λ r. as_number (is_in x r)) q ps in
    ⊎_elim
    (λ e. omega (arith, parts, one_is x p q e h))
    (λ j. omega (arith, parts, counts x p ps j h)) i

-- where one path at most is above x, two are the same
pub only : (x p q : List ℕ) (ps : List (List ℕ)) → count_by (is_in x) ps ≤ 1 → In p ps → In q ps → is_in x p ≡ true → is_in x q ≡ true → p ≡ q
only x p q [] few i j h g = absurd i
only x p q (r ∷ ps) few i j h g =
    let parts = sum_by-cons (λ s. as_number (is_in x s)) r ps in
    ⊎_elim
    (λ e. ⊎_elim (λ d. e ∙ sym d) (λ l. absurd (omega (arith, few, parts, one_is x p r e h, counts x q ps l g))) j)
    (λ k. ⊎_elim
    (λ d. absurd (omega (arith, few, parts, one_is x q r d g, counts x p ps k h)))
    (λ l. only x p q ps (omega (arith, few, parts)) k l h g) j) i
