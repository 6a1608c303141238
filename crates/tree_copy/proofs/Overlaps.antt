-- Paths that overlap, of two lists together; and what `/` is.
use Rattle.tree_copy.proofs.Prelude.{◌≡◌, ◌≢◌, ℕ, Bool, true, false, ◌||◌, List, [], ◌∷◌, ◌++◌, ◌-◌, ◌≤◌, get_or, take, drop, length, map, Option, Some, None}
use Rattle.tree_copy.proofs.Prelude.{refl, ap, ◌∙◌, sym, cond, arith, ◌==◌, list_any, nat_tests, take_all, list_any-append, not_one, is_within, refusal}
use Rattle.tree_copy.proofs.Prelude.{is_root, Pair, overlap}

-- one of two paths is the other, or under it
abbrev pub meets : List ℕ → List ℕ → Bool
meets path other = is_within path other || is_within other path

abbrev pub target : Pair → List ℕ
target pair = pair.target

-- the first list alone, both together, the second alone
shuffle : (a b c d e : Bool) → ((a || b) || (c || (d || e))) ≡ ((a || c) || ((b || d) || e))
shuffle true b c d e = refl
shuffle false true true d e = refl
shuffle false true false d e = refl
shuffle false false true d e = refl
shuffle false false false d e = refl

pub overlap_append : (xs ys : List (List ℕ)) → overlap (xs ++ ys) ≡ (overlap xs || (list_any (λ x. list_any (meets x) ys) xs || overlap ys))
overlap_append [] ys = refl
overlap_append (x ∷ xs) ys =
    (λ i. list_any-append (meets x) xs ys i || overlap_append xs ys i)
    ∙ shuffle (list_any (meets x) xs) (list_any (meets x) ys) (overlap xs) (list_any (λ y. list_any (meets y) ys) xs) (overlap ys)

any_same : {X : Type 0} (p q : X → Bool) (xs : List X) → ((x : X) → p x ≡ q x) → list_any p xs ≡ list_any q xs
any_same p q [] h = refl
any_same p q (x ∷ xs) h = λ i. h x i || any_same p q xs h i

pub any_map : {X Y : Type 0} (p : Y → Bool) (f : X → Y) (xs : List X) → list_any p (map f xs) ≡ list_any (λ x. p (f x)) xs
any_map p f [] = refl
any_map p f (x ∷ xs) = ap (λ b. p (f x) || b) (any_map p f xs)

-- sources and targets
pub overlap_ends : (sources : List (List ℕ)) (pairs : List Pair) →
    overlap (sources ++ map target pairs)
    ≡ (overlap sources || (list_any (λ source. list_any (λ pair. meets source pair.target) pairs) sources || overlap (map target pairs)))
overlap_ends sources pairs =
    overlap_append sources (map target pairs)
    ∙ ap (λ b. overlap sources || (b || overlap (map target pairs)))
    (any_same (λ x. list_any (meets x) (map target pairs)) (λ x. list_any (λ pair. meets x pair.target) pairs) sources
    (λ x. any_map (meets x) target pairs))

-- the targets behind the first
pub targets_more : (rest : List Pair) (pair : Pair) (n : ℕ) → 1 ≤ length rest → pair ≡ get_or rest 0 pair → n ≡ length rest - 1 →
    overlap (map target rest)
    ≡ (list_any (λ other. meets pair.target other.target) (take n (drop 1 rest)) || overlap (map target (take n (drop 1 rest))))
targets_more [] pair n h is e = absurd (omega arith)
targets_more (p ∷ rest) pair n h is e =
    let all : rest ≡ take n rest = sym (take_all n rest (omega (arith, e))) in
    ap (λ b. b || overlap (map target rest)) (any_map (meets p.target) target rest)
    ∙ ap (λ q. list_any (λ other. meets q.target other.target) rest || overlap (map target rest)) (sym is)
    ∙ ap (λ ps. list_any (λ other. meets pair.target other.target) ps || overlap (map target ps)) all

-- a path other than `/` has a parent
pub no_parent : {X : Type 0} (p : List ℕ) (x : X) (found : Option X) → refusal p ≡ None → is_root p ≡ false →
    found ≡ cond (length p == 1) None (Some x) → found ≡ None → ⊥
no_parent p x found h off e none =
    let long : (length p == 1) ≡ false = other (length p) (not_one p h off) in
    some_none (sym none ∙ e ∙ ap (λ b. cond b None (Some x)) long)
  where
    other : (n : ℕ) → n ≢ 1 → (n == 1) ≡ false
    other n l = grind (arith, nat_tests)

    some_none : None ≡ Some x → ⊥
    some_none e = cc
