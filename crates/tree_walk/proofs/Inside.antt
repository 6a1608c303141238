-- A path is in another: it is that path, or under it.
use Rattle.tree_walk.proofs.Prelude.{◌≡◌, ℕ, ◌≤◌, Bool, true, false, ◌&&◌, List, [], ◌∷◌, ◌++◌, length, refl, ap, ◌∙◌, sym, arith, eqb, length-append, None}
use Rattle.tree_walk.proofs.Prelude.{◌==◌, starts_with, false≢true, and_parts, nat_tests, refusal, front, is_in, front_long}

-- ---- lists that begin with a list

-- whether z begins with f
abbrev pub begins : List ℕ → List ℕ → Bool
begins [] z = true
begins (a ∷ f) [] = false
begins (a ∷ f) (b ∷ z) = a == b && begins f z

pub begins_is : (f z : List ℕ) → starts_with eqb z f ≡ begins f z
begins_is [] [] = refl
begins_is [] (b ∷ z) = refl
begins_is (a ∷ f) [] = refl
begins_is (a ∷ f) (b ∷ z) = ap (λ q. a == b && q) (begins_is f z)

pub begins-itself : (f : List ℕ) → begins f f ≡ true
begins-itself [] = refl
begins-itself (a ∷ f) = same a (begins f f) (begins-itself f)
  where
    same : (a : ℕ) (p : Bool) → p ≡ true → (a == a && p) ≡ true
    same a p e = grind (arith, nat_tests)

pub begins-less : (f g z : List ℕ) → begins (f ++ g) z ≡ true → begins f z ≡ true
begins-less [] g z e = refl
begins-less (a ∷ f) g [] e = e
begins-less (a ∷ f) g (b ∷ z) e =
    let h = and_parts (a == b) (begins (f ++ g) z) e in
    ap (λ c. c && begins f z) h.0 ∙ begins-less f g z h.1

pub begins-length : (f z : List ℕ) → begins f z ≡ true → length f ≤ length z
begins-length [] z e = omega arith
begins-length (a ∷ f) [] e = absurd (false≢true e)
begins-length (a ∷ f) (b ∷ z) e = omega (arith, begins-length f z (and_parts (a == b) (begins f z) e).1)

begins_both : (a b c : ℕ) (p q r : Bool) → (b == c && p) ≡ true → (a == b && q) ≡ true → (p ≡ true → q ≡ true → r ≡ true) → (a == c && r) ≡ true
begins_both a b c p q r e d h = grind (arith, nat_tests)

begins_trans : (f g z : List ℕ) → begins f g ≡ true → begins g z ≡ true → begins f z ≡ true
begins_trans [] g z e d = refl
begins_trans (a ∷ f) [] z e d = absurd (false≢true e)
begins_trans (a ∷ f) (b ∷ g) [] e d = absurd (false≢true d)
begins_trans (a ∷ f) (b ∷ g) (c ∷ z) e d = begins_both a b c (begins g z) (begins f g) (begins f z) d e (λ p q. begins_trans f g z q p)

begins_same : (f g : List ℕ) → begins f g ≡ true → begins g f ≡ true → f ≡ g
begins_same [] [] e d = refl
begins_same [] (b ∷ g) e d = absurd (false≢true d)
begins_same (a ∷ f) [] e d = absurd (false≢true e)
begins_same (a ∷ f) (b ∷ g) e d =
    let here = and_parts (a == b) (begins f g) e in
    let first : a ≡ b = same_number a b here.0 in
    let rest : f ≡ g = begins_same f g here.1 (and_parts (b == a) (begins g f) d).1 in
    λ i. first i ∷ rest i
  where
    same_number : (a b : ℕ) → (a == b) ≡ true → a ≡ b
    same_number a b e = grind (arith, nat_tests)

-- ---- what the paths under a path begin with

more_behind : (x y : List ℕ) (b : ℕ) → x ++ b ∷ [] ≡ y ++ b ∷ [] → x ≡ y
more_behind [] [] b e = refl
more_behind [] (d ∷ y) b e = absurd (omega (arith, ap length e, length-append y (b ∷ [])))
more_behind (c ∷ x) [] b e = absurd (omega (arith, ap length e, length-append x (b ∷ [])))
more_behind (c ∷ x) (d ∷ y) b e =
    let first : c ≡ d = cc in
    let behind : x ++ b ∷ [] ≡ y ++ b ∷ [] = cc in
    let rest = more_behind x y b behind in
    λ i. first i ∷ rest i

pub front_same : (x y : List ℕ) → refusal x ≡ None → refusal y ≡ None → front x ≡ front y → x ≡ y
front_same [] y v w e = absurd (cc)
front_same (a ∷ x) [] v w e = absurd (cc)
front_same (a ∷ []) (b ∷ []) v w e = e
front_same (a ∷ []) (b ∷ d ∷ y) v w e =
    let same : a ∷ [] ≡ b ∷ d ∷ (y ++ 47 ∷ []) = e ∙ front_long b d y in
    absurd (omega (arith, ap length same))
front_same (a ∷ c ∷ x) (b ∷ []) v w e =
    let same : a ∷ c ∷ (x ++ 47 ∷ []) ≡ b ∷ [] = sym (front_long a c x) ∙ e in
    absurd (omega (arith, ap length same))
front_same (a ∷ c ∷ x) (b ∷ d ∷ y) v w e = more_behind (a ∷ c ∷ x) (b ∷ d ∷ y) 47 (sym (front_long a c x) ∙ e ∙ front_long b d y)

-- ---- paths

-- x is the path p or under it
abbrev pub at_or_under : List ℕ → List ℕ → Bool
at_or_under x p = begins (front p) (front x)

pub is_in_is : (x p : List ℕ) → is_in x p ≡ at_or_under x p
is_in_is x p = begins_is (front p) (front x)

pub in_itself : (x : List ℕ) → is_in x x ≡ true
in_itself x = is_in_is x x ∙ begins-itself (front x)

pub in_trans : (x y p : List ℕ) → is_in x y ≡ true → is_in y p ≡ true → is_in x p ≡ true
in_trans x y p e d = is_in_is x p ∙ begins_trans (front p) (front y) (front x) (sym (is_in_is y p) ∙ d) (sym (is_in_is x y) ∙ e)

-- paths that are in each other are one path
pub in_both_ways : (x y : List ℕ) → refusal x ≡ None → refusal y ≡ None → is_in x y ≡ true → is_in y x ≡ true → x ≡ y
in_both_ways x y v w e d = front_same x y v w (begins_same (front x) (front y) (sym (is_in_is y x) ∙ d) (sym (is_in_is x y) ∙ e))
