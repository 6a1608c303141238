-- The first byte that is written as an escape, found by blocks.
use Rattle.path_text.proofs.Prelude.{◌≡◌, ℕ, ◌+◌, ◌≤◌, Bool, true, false, not, List, [], ◌∷◌, length, take, drop, refl, ◌∙◌, arith, Some, None, cond, zero, suc}
use Rattle.path_text.proofs.Prelude.{length-drop, nat_lt, list_any, position, position_or_len, nat_tests, is_escaped, or_parts}

one_more : (b : Bool) (n k : ℕ) → b ≡ false → k ≤ n → suc k ≤ cond (not b) (1 + n) 0
one_more true n k e h = cc
one_more false n k e h = omega arith

-- a block without such a byte
clean_block : (xs : List ℕ) (n : ℕ) → n ≤ length xs → list_any is_escaped (take n xs) ≡ false → n ≤ position_or_len is_escaped xs
clean_block xs zero h e = omega arith
clean_block [] (suc n) h e = absurd (omega arith)
clean_block (x ∷ xs) (suc n) h e =
    let w = or_parts (is_escaped x) (list_any is_escaped (take n xs)) e in
    one_more (is_escaped x) (position_or_len is_escaped xs) n w.0 (clean_block xs n (omega arith) w.1)

skipped : (b : Bool) (n k : ℕ) → suc k ≤ cond (not b) (1 + n) 0 → (k ≤ n) × (cond (not b) (1 + n) 0 ≡ 1 + n)
skipped true n k h = absurd (omega arith)
skipped false n k h = (omega arith, refl)

-- behind bytes that are written as they are the first other one has the same place
pub place_behind : (xs : List ℕ) (k : ℕ) → k ≤ position_or_len is_escaped xs → position_or_len is_escaped xs ≡ k + position_or_len is_escaped (drop k xs)
place_behind xs zero h = omega arith
place_behind [] (suc k) h = absurd (omega arith)
place_behind (x ∷ xs) (suc k) h =
    let w = skipped (is_escaped x) (position_or_len is_escaped xs) k h in
    w.1 ∙ omega (arith, place_behind xs k w.0)

-- one more block
pub next_block : (xs : List ℕ) (at n : ℕ) → at ≤ position_or_len is_escaped xs → at + n ≤ length xs →
    list_any is_escaped (take n (drop at xs)) ≡ false → at + n ≤ position_or_len is_escaped xs
next_block xs at n h l e = omega (arith, place_behind xs at h, clean_block (drop at xs) n (omega (arith, length-drop at xs)) e)

found_at : (p q k n m at : ℕ) → p ≡ k + q → n ≡ k + m → cond (nat_lt q m) (Some q) None ≡ Some at → cond (nat_lt p n) (Some p) None ≡ Some (k + at)
found_at p q k n m at e l h = grind (arith, nat_tests)

found_none : (p q k n m : ℕ) → p ≡ k + q → n ≡ k + m → cond (nat_lt q m) (Some q) None ≡ None → cond (nat_lt p n) (Some p) None ≡ None
found_none p q k n m e l h = grind (arith, nat_tests)

pub behind_Some : (xs : List ℕ) (k at : ℕ) → k ≤ position_or_len is_escaped xs → k ≤ length xs → position is_escaped (drop k xs) ≡ Some at →
    position is_escaped xs ≡ Some (k + at)
behind_Some xs k at h l e = found_at _ _ k _ (length (drop k xs)) at (place_behind xs k h) (omega (arith, length-drop k xs)) e

pub behind_None : (xs : List ℕ) (k : ℕ) → k ≤ position_or_len is_escaped xs → k ≤ length xs → position is_escaped (drop k xs) ≡ None →
    position is_escaped xs ≡ None
behind_None xs k h l e = found_none _ _ k _ (length (drop k xs)) (place_behind xs k h) (omega (arith, length-drop k xs)) e
