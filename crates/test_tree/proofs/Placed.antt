-- The path of a node: its parent, its base and its length.
use Rattle.test_tree.proofs.Prelude.{◌≡◌, ◌≢◌, ℕ, ◌+◌, ◌-◌, ◌*◌, ◌/◌, ◌<◌, ◌≤◌, ◌^◌, ◌⊎◌, inl, inr, zero, suc, true, false, cond, List, [], ◌∷◌, ◌++◌, length}
use Rattle.test_tree.proofs.Prelude.{drop, refl, ap, ◌∙◌, sym, subst, arith, length-append, ◌==◌, before_last, after_last, nat_tests, decimal_digit, is_slash}
use Rattle.test_tree.proofs.Prelude.{joined, parent_of, base_of, around_slash, name_of, path_down, place, place_over}
use Rattle.test_tree.specs.Nodes.{path_of}
use Rattle.test_tree.proofs.Numbered.{name_bare, name_short, name_tells}

-- levels that suffice change nothing
enough : (a b k : ℕ) → k < a → k < b → path_down a k ≡ path_down b k
enough zero b k h l = absurd (omega arith)
enough (suc a) zero k h l = absurd (omega arith)
enough (suc a) (suc b) zero h l = refl
enough (suc a) (suc b) (suc k) h l = ap (λ p. joined p (name_of (suc k))) (enough a b (k / 8) (omega arith) (omega arith))

pub path_of-zero : path_of 0 ≡ joined (47 ∷ []) (name_of 0)
unfolding path_of
path_of-zero = refl

pub path_of-suc : (k : ℕ) → path_of (suc k) ≡ joined (path_of (k / 8)) (name_of (suc k))
unfolding path_of
path_of-suc k = ap (λ p. joined p (name_of (suc k))) (enough (suc k) (suc (k / 8)) (k / 8) (omega arith) (omega arith))

next_place : (k : ℕ) → suc (k / 8) ≡ (suc k + 7) / 8
next_place k = omega arith

pub place_over-suc : (k : ℕ) → place_over (suc k) ≡ path_of (k / 8)
place_over-suc k = ap place (sym (next_place k))

-- the path of a node is that of its place and its name
pub path_joined : (k : ℕ) → path_of k ≡ joined (place_over k) (name_of k)
path_joined zero = path_of-zero
path_joined (suc k) = path_of-suc k ∙ ap (λ p. joined p (name_of (suc k))) (sym (place_over-suc k))

-- the length

not_one : (n : ℕ) → n ≢ 1 → (n == 1) ≡ false
not_one n h = grind (arith, nat_tests)

one : (n : ℕ) → (n == 1) ≡ true → n ≡ 1
one n h = grind (arith, nat_tests)

long_joined : (p : List ℕ) (b : ℕ) (n : List ℕ) → 1 < length (joined p (b ∷ n))
long_joined p b n =
    elim (length p == 1) as (λ t. (length p == 1) ≡ t → 1 < length (cond t (p ++ b ∷ n) (p ++ 47 ∷ b ∷ n))) [
      | true ↦ λ e. let l = one (length p) e in omega (arith, length-append p (b ∷ n))
      | false ↦ λ e. omega (arith, length-append p (47 ∷ b ∷ n))
    ] refl

pub path_long : (k : ℕ) → 1 < length (path_of k)
path_long k = omega (arith, ap length (path_joined k), long_joined (place_over k) 110 (drop 1 (name_of k)))

joined_short : (p n : List ℕ) → length (joined p n) ≤ length p + 1 + length n
joined_short p n =
    elim (length p == 1) as (λ t. length (cond t (p ++ n) (p ++ 47 ∷ n)) ≤ length p + 1 + length n) [
      | true ↦ omega (arith, length-append p n)
      | false ↦ omega (arith, length-append p (47 ∷ n))
    ]

-- a node of which the number is below 8 to the j stands at most j levels down
path_short : (j k : ℕ) → k < 10 ^ 7 → k < 8 ^ j → length (path_of k) ≤ 3 + 9 * j
path_short j zero h l = omega (arith, ap length path_of-zero, ap length (decimal_digit 0 (omega arith)))
path_short zero (suc k) h l = absurd (omega arith)
path_short (suc j) (suc k) h l =
    let up = path_short j (k / 8) (omega arith) (omega arith) in
    omega (arith, ap length (path_of-suc k), joined_short (path_of (k / 8)) (name_of (suc k)), name_short (suc k) h, up)

pub path_fits : (k : ℕ) → k < 1000000 → length (path_of k) ≤ 4095
path_fits k h = omega (arith, path_short 7 k (omega arith) (omega arith))

-- the parent and the base

-- `/`, or a path with a name
abbrev IsPlace : List ℕ → Type 0
IsPlace p = (p ≡ 47 ∷ []) ⊎ (1 < length p)

place_is : (d : ℕ) → IsPlace (place d)
place_is zero = inl refl
place_is (suc k) = inr (path_long k)

-- a path cut at its last slash, over which p stands
record Cut (p base x : List ℕ) : Type 0 where
  before : List ℕ
  whole : x ≡ before ++ 47 ∷ base
  over : cond (length before == 0) (47 ∷ []) before ≡ p

not_none : (p : List ℕ) → 1 < length p → cond (length p == 0) (47 ∷ []) p ≡ p
not_none p l = let e : (length p == 0) ≡ false = grind (arith, nat_tests) in ap (λ b. cond b (47 ∷ []) p) e

cut : (p base : List ℕ) → IsPlace p → Cut p base (joined p base)
cut p base (inl e) = record { before = []; whole = ap (λ p. joined p base) e; over = sym e }
cut p base (inr l) = record {
  before = p;
  whole = ap (λ b. cond b (p ++ base) (p ++ 47 ∷ base)) (not_one (length p) (λ e. absurd (omega arith)));
  over = not_none p l;
}

node_cut : (k : ℕ) → Cut (place_over k) (name_of k) (path_of k)
node_cut k = subst (Cut (place_over k) (name_of k)) (sym (path_joined k)) (cut (place_over k) (name_of k) (place_is ((k + 7) / 8)))

pub parent_of-path : (k : ℕ) → k < 2 ^ 64 → parent_of (path_of k) ≡ place_over k
parent_of-path k h =
    let c = node_cut k in
    ap (λ b. cond (length b == 0) (47 ∷ []) b) (ap (before_last is_slash) c.whole ∙ (around_slash c.before (name_of k) (name_bare k h)).first) ∙ c.over

pub base_of-path : (k : ℕ) → k < 2 ^ 64 → base_of (path_of k) ≡ name_of k
base_of-path k h = let c = node_cut k in ap (after_last is_slash) c.whole ∙ (around_slash c.before (name_of k) (name_bare k h)).last

-- so no two nodes have the same path
pub path_tells : (i j : ℕ) → i < 2 ^ 64 → j < 2 ^ 64 → path_of i ≡ path_of j → i ≡ j
path_tells i j h l e = name_tells i j h l (sym (base_of-path i h) ∙ ap base_of e ∙ base_of-path j l)

-- and none that of `/`
pub never_root : (k : ℕ) → path_of k ≢ 47 ∷ []
never_root k e = let l = path_long k in absurd (omega (arith, ap length e))

-- what the path of a node is made of

pub made_of : (k : ℕ) (p name : List ℕ) → p ≡ place_over k → name ≡ name_of k → joined p name ≡ path_of k
made_of k p name o e = (λ i. joined (o i) (e i)) ∙ sym (path_joined k)

pub fits_made : (k : ℕ) (p name : List ℕ) → p ≡ place_over k → name ≡ name_of k → k < 1000000 → length (joined p name) ≤ 4095
fits_made k p name o e h = let fits = path_fits k h in omega (arith, ap length (made_of k p name o e))
