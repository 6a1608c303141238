-- What the code asks of the bytes of two paths.
use Rattle.tree_walk.proofs.Prelude.{◌≡◌, ℕ, ◌<◌, ◌≤◌, Bool, true, false, ◌&&◌, ◌||◌, List, [], ◌∷◌, ◌++◌, length, refl, ap, ◌∙◌, sym, arith, cond, suc, eqb}
use Rattle.tree_walk.proofs.Prelude.{length-append, None, and_right, ◌==◌, starts_with, slice_index_or, nat_tests, refusal, front, is_in}
use Rattle.tree_walk.proofs.Inside.{begins, begins_is, begins-length, is_in_is}

-- the path p, and then its end or a slash
abbrev AtEnd : List ℕ → List ℕ → Bool
AtEnd x p = length x == length p || slice_index_or x (length p) 0 == 47

end_or_slash : (b n : ℕ) → (47 == b && true) ≡ (suc n == 0 || b == 47)
end_or_slash b n = grind (arith, nat_tests)

never : (p : List ℕ) → begins (p ++ 47 ∷ []) [] ≡ false
never [] = refl
never (a ∷ p) = refl

one_more : (e s r q : Bool) (m n : ℕ) → r ≡ (s && (m == n || q)) → (e && r) ≡ ((e && s) && (suc m == suc n || q))
one_more e s r q m n h = grind (arith, nat_tests)

ends : (x p : List ℕ) → begins (p ++ 47 ∷ []) (x ++ 47 ∷ []) ≡ (begins p x && AtEnd x p)
ends [] [] = refl
ends (b ∷ x) [] = end_or_slash b (length x)
ends [] (a ∷ p) = and_right (a == 47) (begins (p ++ 47 ∷ []) []) (never p)
ends (b ∷ x) (a ∷ p) =
    one_more (a == b) (begins p x) (begins (p ++ 47 ∷ []) (x ++ 47 ∷ [])) (slice_index_or x (length p) 0 == 47) (length x) (length p) (ends x p)

too_long : (f z : List ℕ) → length z < length f → begins f z ≡ false
too_long f z l = elim (begins f z) as (λ b. begins f z ≡ b → b ≡ false) [
  | true ↦ λ t. absurd (omega (arith, l, begins-length f z t))
  | false ↦ λ n. refl
] refl

pub is_one : (n : ℕ) → (n == 1) ≡ true → n ≡ 1
is_one n e = grind (arith, nat_tests)

by_front : (x p : List ℕ) → 2 ≤ length p → begins (p ++ 47 ∷ []) (front x) ≡ (begins p x && AtEnd x p)
by_front x p l =
    elim (length x == 1) as (λ b. (length x == 1) ≡ b → begins (p ++ 47 ∷ []) (cond b x (x ++ 47 ∷ [])) ≡ (begins p x && AtEnd x p)) [
      | true ↦ λ e.
          let short = is_one (length x) e in
          too_long (p ++ 47 ∷ []) x (omega (arith, short, l, length-append p (47 ∷ [])))
          ∙ sym (ap (λ b. b && AtEnd x p) (too_long p x (omega (arith, short, l))))
      | false ↦ λ e. ends x p
    ] refl

two : (p : List ℕ) → refusal p ≡ None → (length p == 1) ≡ false → 2 ≤ length p
two (a ∷ b ∷ p) r e = omega arith
two _ r e = cc

not_one : (n : ℕ) → (n ≡ 1 → ⊥) → (n == 1) ≡ false
not_one n h = grind (arith, nat_tests)

-- the bytes of two paths, of which the second is not `/`
pub record AreBytes (x p xs ps : List ℕ) : Type 0 where
  pub first : xs ≡ x
  pub second : ps ≡ p
  pub valid : refusal p ≡ None
  pub long : length ps ≡ 1 → ⊥

in_by_bytes : (x p xs ps : List ℕ) → AreBytes x p xs ps → is_in x p ≡ (starts_with eqb xs ps && AtEnd xs ps)
in_by_bytes x p xs ps b =
    let more : (length p == 1) ≡ false = ap (λ l. length l == 1) (sym b.second) ∙ not_one (length ps) b.long in
    is_in_is x p ∙ ap (λ c. begins (cond c p (p ++ 47 ∷ [])) (front x)) more ∙ by_front x p (two p b.valid more)
    ∙ ap (λ c. c && AtEnd x p) (sym (begins_is p x)) ∙ (λ i. starts_with eqb (sym b.first i) (sym b.second i) && AtEnd (sym b.first i) (sym b.second i))

same_number : (m n : ℕ) → m ≡ n → (m == n) ≡ true
same_number m n h = grind (arith, nat_tests)

other_number : (m n : ℕ) → (m ≡ n → ⊥) → (m == n) ≡ false
other_number m n h = grind (arith, nat_tests)

-- x begins with p, and ends there
pub in_as_same : (x p xs ps : List ℕ) → AreBytes x p xs ps → starts_with eqb xs ps ≡ true → length xs ≡ length ps → (length xs == length ps) ≡ is_in x p
in_as_same x p xs ps b s l =
    let same = same_number (length xs) (length ps) l in
    same ∙ sym (in_by_bytes x p xs ps b ∙ (λ i. s i && (same i || slice_index_or xs (length ps) 0 == 47)))

-- x begins with p, and goes on
pub in_as_under : (x p xs ps : List ℕ) → AreBytes x p xs ps → starts_with eqb xs ps ≡ true → (length xs ≡ length ps → ⊥) →
    (slice_index_or xs (length ps) 0 == 47) ≡ is_in x p
in_as_under x p xs ps b s l =
    sym (in_by_bytes x p xs ps b ∙ (λ i. s i && (other_number (length xs) (length ps) l i || slice_index_or xs (length ps) 0 == 47)))

-- x does not begin with p
pub in_as_other : (x p xs ps : List ℕ) → AreBytes x p xs ps → starts_with eqb xs ps ≡ false → false ≡ is_in x p
in_as_other x p xs ps b s = sym (in_by_bytes x p xs ps b ∙ (λ i. s i && AtEnd xs ps))
