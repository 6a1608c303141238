-- What two texts begin with.
use Rattle.path_text.proofs.Prelude.{◌≡◌, ℕ, zero, suc, ◌+◌, ◌≤◌, true, cond, List, [], ◌∷◌, length, take, drop, min, refl, ap, ◌∙◌, arith, nat_eq}
use Rattle.path_text.proofs.Prelude.{common_prefix_len, common_prefix_len-le, nat_tests}

-- where the first so many bytes are the same, both begin with these and with what the bytes behind them begin with
pub prefix_past : (a b : List ℕ) (n : ℕ) → n ≤ length a → n ≤ length b → take n a ≡ take n b →
    common_prefix_len nat_eq a b ≡ n + common_prefix_len nat_eq (drop n a) (drop n b)
prefix_past a b zero la lb same = omega arith
prefix_past [] b (suc n) la lb same = absurd (omega (arith, la))
prefix_past (x ∷ xs) [] (suc n) la lb same = absurd (omega (arith, lb))
prefix_past (x ∷ xs) (y ∷ ys) (suc n) la lb same =
    let first : x ≡ y = cc in
    let others : take n xs ≡ take n ys = cc in
    let yes : nat_eq x y ≡ true = grind (arith, nat_tests, first) in
    let rest = prefix_past xs ys n (omega (arith, la)) (omega (arith, lb)) others in
    ap (λ t. cond t (1 + common_prefix_len nat_eq xs ys) 0) yes ∙ omega (arith, rest)

prefix_nil : (a : List ℕ) → common_prefix_len nat_eq a [] ≡ 0
prefix_nil [] = refl
prefix_nil (x ∷ xs) = refl

pub prefix_done : (a b : List ℕ) (i : ℕ) → min (length a) (length b) ≤ i → common_prefix_len nat_eq (drop i a) (drop i b) ≡ 0
prefix_done [] b zero le = refl
prefix_done [] b (suc i) le = refl
prefix_done (x ∷ xs) [] zero le = refl
prefix_done (x ∷ xs) [] (suc i) le = prefix_nil (drop i xs)
prefix_done (x ∷ xs) (y ∷ ys) zero le = absurd (omega (arith, le))
prefix_done (x ∷ xs) (y ∷ ys) (suc i) le = prefix_done xs ys i (omega (arith, le))

pub prefix_short : (a b : List ℕ) (n : ℕ) → n ≡ common_prefix_len nat_eq a b → n ≤ length b
prefix_short a b n e = omega (arith, e, (common_prefix_len-le nat_eq a b).1)
