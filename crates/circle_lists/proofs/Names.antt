-- The name of a rank's file: it may stand after a `/`, and tells the rank.
use Rattle.circle_lists.proofs.Prelude.{◌≡◌, ℕ, ◌+◌, ◌<◌, ◌≤◌, ◌^◌, ◌%◌, Bool, false, ◌||◌, List, [], ◌∷◌, ◌++◌, refl, ap, ◌∙◌, arith, ◌==◌, codes, IsTrue}
use Rattle.circle_lists.proofs.Prelude.{decimal, list_any, decimal_by_steps, list_any-append, nat_tests, is_slash, is_name, file_name}

-- a test that no byte from 48 on passes is passed by no digit
no_digit : (p : ℕ → Bool) → ((d : ℕ) → 48 ≤ d → p d ≡ false) → (k : ℕ) → k < 2 ^ 64 → list_any p (decimal k) ≡ false
no_digit p off =
    decimal_by_steps (λ n ds. list_any p ds ≡ false)
    (λ n l. ap (λ b. b || false) (off (48 + n) (omega arith)))
    (λ n ds l e. list_any-append p ds ((48 + n % 10) ∷ []) ∙ (λ i. e i || (off (48 + n % 10) (omega arith) i || false)))

no_slash : (d : ℕ) → 48 ≤ d → is_slash d ≡ false
no_slash d h = grind (arith, nat_tests)

no_nul : (d : ℕ) → 48 ≤ d → (d == 0) ≡ false
no_nul d h = grind (arith, nat_tests)

fine : (ds : List ℕ) → list_any is_slash ds ≡ false → list_any (λ b. b == 0) ds ≡ false → IsTrue (is_name (codes "circle" ++ ds))
fine ds s z = grind (arith, nat_tests)

with_end : (p : ℕ → Bool) (ds : List ℕ) → list_any p ds ≡ false → list_any p (codes ".txt") ≡ false → list_any p (ds ++ codes ".txt") ≡ false
with_end p ds e f = list_any-append p ds (codes ".txt") ∙ (λ i. e i || f i)

pub name_fine : (k : ℕ) → k < 64 → IsTrue (is_name (file_name k))
name_fine k h =
    let small : k < 2 ^ 64 = omega (arith, h) in
    fine (decimal k ++ codes ".txt")
    (with_end is_slash (decimal k) (no_digit is_slash no_slash k small) refl)
    (with_end (λ b. b == 0) (decimal k) (no_digit (λ b. b == 0) no_nul k small) refl)

pub name_bare : (k : ℕ) → k < 64 → list_any is_slash (file_name k) ≡ false
name_bare k h = with_end is_slash (decimal k) (no_digit is_slash no_slash k (omega (arith, h))) refl
