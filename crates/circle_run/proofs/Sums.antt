-- Sums over lists of which one element is replaced, and over ranks.
use Rattle.circle_run.proofs.Prelude.{◌≡◌, ℕ, zero, suc, ◌+◌, ◌<◌, ◌≤◌, ◌≢◌, ◌==◌, refl, ap, arith, Bool, cond, List, [], ◌∷◌, length, set, get_or, eq-eqb}
use Rattle.circle_run.proofs.Prelude.{ne_eqb, sum_by, flat_map, range_with_len, sum_by-cons, sum_by-append, dite, ℕ_discrete}

module _ {X : Type 0} where
  -- also at a place past the end, where the new element counts as much as the one that is read there
  pub sum_by-set : (f : X → ℕ) (xs : List X) (i : ℕ) (y d : X) → (length xs ≤ i → f y ≡ f d) → sum_by f (set xs i y) + f (get_or xs i d) ≡ sum_by f xs + f y
  sum_by-set f [] i y d past = let e : f y ≡ f d = past (omega arith) in omega arith
  sum_by-set f (x ∷ xs) zero y d past = omega (arith, sum_by-cons f y xs, sum_by-cons f x xs)
  sum_by-set f (x ∷ xs) (suc i) y d past =
      omega (arith, sum_by-cons f x (set xs i y), sum_by-cons f x xs, sum_by-set f xs i y d (λ h. past (omega arith)))

  pub sum_by-flat_map : {A : Type 0} (weight : A → ℕ) (f : X → List A) (xs : List X) → sum_by weight (flat_map f xs) ≡ sum_by (λ x. sum_by weight (f x)) xs
  sum_by-flat_map weight f [] = refl
  sum_by-flat_map weight f (x ∷ xs) =
      omega (arith, sum_by-append weight (f x) (flat_map f xs), sum_by-cons (λ (x : X). sum_by weight (f x)) x xs, sum_by-flat_map weight f xs)

  pub sum_by-same : (f g : X → ℕ) → ((x : X) → f x ≡ g x) → (xs : List X) → sum_by f xs ≡ sum_by g xs
  sum_by-same f g same [] = refl
  sum_by-same f g same (x ∷ xs) = omega (arith, sum_by-cons f x xs, sum_by-cons g x xs, same x, sum_by-same f g same xs)

  pub sum_by-both : (f g : X → ℕ) (xs : List X) → sum_by (λ x. f x + g x) xs ≡ sum_by f xs + sum_by g xs
  sum_by-both f g [] = refl
  sum_by-both f g (x ∷ xs) = omega (arith, sum_by-cons (λ (x : X). f x + g x) x xs, sum_by-cons f x xs, sum_by-cons g x xs, sum_by-both f g xs)

  pub sum_by-ones : (xs : List X) → sum_by (λ x. 1) xs ≡ length xs
  sum_by-ones [] = refl
  sum_by-ones (x ∷ xs) = omega (arith, sum_by-cons (λ (x : X). 1) x xs, sum_by-ones xs)

-- what is counted at one rank alone
abbrev at_one : ℕ → ℕ → ℕ → ℕ
at_one m k r = cond (m == r) k 0

none_below : (m k a n : ℕ) → m < a → sum_by (at_one m k) (range_with_len a n) ≡ 0
none_below m k a zero h = refl
none_below m k a (suc n) h =
    let other : m ≢ a = omega arith in
    let here : at_one m k a ≡ 0 = ap (λ (b : Bool). cond b k 0) (ne_eqb m a other) in
    omega (arith, sum_by-cons (at_one m k) a (range_with_len (a + 1) n), here, none_below m k (a + 1) n (omega arith))

pub sum_by-at_one : (m k a n : ℕ) → a ≤ m → m < a + n → sum_by (λ r. cond (m == r) k 0) (range_with_len a n) ≡ k
sum_by-at_one m k a zero h below = absurd (omega arith)
sum_by-at_one m k a (suc n) h below = dite (ℕ_discrete m a)
    (λ e. (let here : at_one m k a ≡ k = ap (λ (b : Bool). cond b k 0) (eq-eqb m a e) in
    omega (arith, sum_by-cons (at_one m k) a (range_with_len (a + 1) n), here, none_below m k (a + 1) n (omega arith))))
    (λ ne. (let here : at_one m k a ≡ 0 = ap (λ (b : Bool). cond b k 0) (ne_eqb m a ne) in
    omega (arith, sum_by-cons (at_one m k) a (range_with_len (a + 1) n), here, sum_by-at_one m k (a + 1) n (omega arith) (omega arith))))
