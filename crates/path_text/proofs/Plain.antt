-- The bytes of a path that stand for themselves.
use Rattle.path_text.proofs.Prelude.{◌≡◌, ℕ, ◌+◌, ◌<◌, ◌≤◌, true, false, not, List, [], ◌∷◌, ◌++◌, length, take, drop, get_or, refl, ap, ◌∙◌, sym, arith}
use Rattle.path_text.proofs.Prelude.{Option, Some, None, cond, zero, suc, append-nil, drop-cons, add-one, slice_index, position, position_or_len, IfSome}
use Rattle.path_text.proofs.Prelude.{IfNone, take-length, drop-length, passes_at_first, is_escaped, escaped, escape}
use Rattle.path_text.proofs.Split.{place, no_place}
use Rattle.path_text.proofs.Readable.{as_itself}

-- the bytes up to the first that does not are written as they are
plain : (xs : List ℕ) (k : ℕ) → k ≤ position_or_len is_escaped xs → escape xs ≡ take k xs ++ escape (drop k xs)
plain xs zero h = refl
plain [] (suc k) h = refl
plain (x ∷ xs) (suc k) h =
    elim (is_escaped x) as (λ b. is_escaped x ≡ b → suc k ≤ cond (not b) (1 + position_or_len is_escaped xs) 0 →
    escaped x ++ escape xs ≡ x ∷ (take k xs ++ escape (drop k xs))) [
      | true ↦ λ e h. absurd (omega arith)
      | false ↦ λ e h. ap (λ l. l ++ escape xs) (as_itself x e) ∙ ap (λ r. x ∷ r) (plain xs k (omega arith))
    ] refl h

-- the bytes before the one at k, that one, which does not stand for itself, and the rest
abbrev pub Divides : List ℕ → ℕ → Type 0
Divides xs k = (k < length xs) × (is_escaped (slice_index xs k) ≡ true) × (escape xs ≡ take k xs ++ (escaped (slice_index xs k) ++ escape (drop (k + 1) xs)))

divides_at : (xs : List ℕ) (k : ℕ) → k < length xs → position_or_len is_escaped xs ≡ k → Divides xs k
divides_at xs k h e =
    let one : drop k xs ≡ get_or xs k 0 ∷ drop (k + 1) xs = rw (add-one, drop-cons xs k 0) in (
      h,
      ap (λ k. is_escaped (get_or xs k 0)) (sym e) ∙ passes_at_first is_escaped xs 0 (omega arith),
      plain xs k (omega arith)
          ∙ ap (λ r. take k xs ++ escape r) one,
    )

-- what the place of the first such byte says of the text
pub by_escaped : (xs : List ℕ) (r : Option ℕ) → r ≡ position is_escaped xs → IfSome r (Divides xs) × IfNone r (escape xs ≡ xs)
by_escaped xs (Some k) e = let at = place (position_or_len is_escaped xs) (length xs) k (sym e) in (divides_at xs k (omega (arith, at.0, at.1)) at.1, tt)
by_escaped xs None e =
    let all : length xs ≤ position_or_len is_escaped xs = no_place (position_or_len is_escaped xs) (length xs) (sym e) in
    (tt, plain xs (length xs) all ∙ (λ i. take-length xs i ++ escape (drop-length xs i)) ∙ append-nil xs)
