-- The name of a node: it may stand after a `/`, is short, and tells the number.
use Rattle.test_tree.proofs.Prelude.{◌≡◌, ℕ, ◌+◌, ◌<◌, ◌≤◌, ◌^◌, ◌%◌, Bool, false, ◌||◌, List, [], ◌∷◌, length, drop, ap, ◌∙◌, arith, ◌==◌, IsTrue, decimal}
use Rattle.test_tree.proofs.Prelude.{list_any, decimal_by_steps, decimal_injective, length-decimal-le, list_any-append, nat_tests, is_slash, is_name, name_of}

-- a test that no byte from 48 on passes is passed by no digit
no_digit : (p : ℕ → Bool) → ((d : ℕ) → 48 ≤ d → p d ≡ false) → (k : ℕ) → k < 2 ^ 64 → list_any p (decimal k) ≡ false
no_digit p off =
    decimal_by_steps (λ n ds. list_any p ds ≡ false)
    (λ n l. ap (λ b. b || false) (off (48 + n) (omega arith)))
    (λ n ds l e. list_any-append p ds ((48 + n % 10) ∷ []) ∙ (λ i. e i || (off (48 + n % 10) (omega arith) i || false)))

no_slash : (d : ℕ) → 48 ≤ d → is_slash d ≡ false
no_slash d h = grind (arith, nat_tests)

no_nul : (d : ℕ) → 48 ≤ d → (d == 0) ≡ false
no_nul d h = grind (arith, nat_tests)

fine : (ds : List ℕ) → list_any is_slash ds ≡ false → list_any (λ b. b == 0) ds ≡ false → IsTrue (is_name (110 ∷ ds))
fine ds s z = grind (arith, nat_tests)

pub name_bare : (k : ℕ) → k < 2 ^ 64 → list_any is_slash (name_of k) ≡ false
name_bare k h = no_digit is_slash no_slash k h

pub name_fine : (k : ℕ) → k < 2 ^ 64 → IsTrue (is_name (name_of k))
name_fine k h = fine (decimal k) (no_digit is_slash no_slash k h) (no_digit (λ b. b == 0) no_nul k h)

pub name_short : (k : ℕ) → k < 10 ^ 7 → length (name_of k) ≤ 8
name_short k h = let l = length-decimal-le 7 k (omega arith) h (omega arith) in omega arith

pub name_tells : (i j : ℕ) → i < 2 ^ 64 → j < 2 ^ 64 → name_of i ≡ name_of j → i ≡ j
name_tells i j h l e = decimal_injective i j h l (ap (drop 1) e)
