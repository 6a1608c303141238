-- The names of a path, one after the other.
use Rattle.path_text.proofs.Prelude.{◌≡◌, ℕ, ◌+◌, ◌<◌, true, false, List, [], ◌∷◌, length, take, drop, refl, ap, ◌∙◌, sym, arith, Option, Some, None, cond, ltb}
use Rattle.path_text.proofs.Prelude.{◌≤◌, slice_split, onto_first, position, position_or_len, IfSome, IfNone, slice_split_first, slice_split-cons_no, nat_tests}
use Rattle.path_text.proofs.Prelude.{is_slash}

pub place : (q n k : ℕ) → cond (ltb q n) (Some q) None ≡ Some k → (q < n) × (q ≡ k)
place q n k e = grind (arith, nat_tests)

pub no_place : (q n : ℕ) → cond (ltb q n) (Some q) None ≡ None → n ≤ q
no_place q n e = grind (arith, nat_tests)

-- the first name, and those behind its slash
pub slice_split-Some : (xs : List ℕ) (k : ℕ) → position is_slash xs ≡ Some k →
    (k < length xs) × (slice_split is_slash xs ≡ take k xs ∷ slice_split is_slash (drop (k + 1) xs))
slice_split-Some xs k e =
    let at = place (position_or_len is_slash xs) (length xs) k e in
    (omega (arith, at.0, at.1), slice_split_first is_slash xs 0 at.0 ∙ (λ i. take (at.1 i) xs ∷ slice_split is_slash (drop (at.1 i + 1) xs)))

split_none : (xs : List ℕ) → length xs ≤ position_or_len is_slash xs → slice_split is_slash xs ≡ xs ∷ []
split_none [] h = refl
split_none (x ∷ xs) h =
    elim (is_slash x) as (λ b. is_slash x ≡ b → slice_split is_slash (x ∷ xs) ≡ (x ∷ xs) ∷ []) [
      | true ↦ λ e. let g = rw e at h in absurd (omega arith)
      | false ↦ λ e. let g = rw e at h in slice_split-cons_no is_slash x xs e ∙ ap (onto_first x) (split_none xs (omega arith))
    ] refl

pub slice_split-None : (xs : List ℕ) → position is_slash xs ≡ None → slice_split is_slash xs ≡ xs ∷ []
slice_split-None xs e = split_none xs (no_place (position_or_len is_slash xs) (length xs) e)

-- what the place of the first slash says of the names
pub by_place : (xs : List ℕ) (r : Option ℕ) → r ≡ position is_slash xs →
    IfSome r (λ k. (k < length xs) × (slice_split is_slash xs ≡ take k xs ∷ slice_split is_slash (drop (k + 1) xs)))
    × IfNone r (slice_split is_slash xs ≡ xs ∷ [])
by_place xs (Some k) e = (slice_split-Some xs k (sym e), tt)
by_place xs None e = (tt, slice_split-None xs (sym e))
