-- The parts of a text, one after the other.
use Rattle.tree_cmp.proofs.Prelude.{◌≡◌, ℕ, ◌+◌, ◌<◌, ◌≤◌, true, false, List, [], ◌∷◌, ◌++◌, append_assoc, length, take, drop, refl, ap, ◌∙◌, sym, arith}
use Rattle.tree_cmp.proofs.Prelude.{Option, Some, None, Result, Ok, Err, slice_split, onto_first, position, position_or_len, IfNone, length-take-le}
use Rattle.tree_cmp.proofs.Prelude.{slice_split_first, slice_split-cons_no, ExprError, cons_reading, place, no_place}
use Rattle.std.specs.Prelude.{Bool}
use Rattle.std.specs.Option.{IfSome}

module _ (p : ℕ → Bool) where
  split_some : (xs : List ℕ) (k : ℕ) → position p xs ≡ Some k → (k < length xs) × (slice_split p xs ≡ take k xs ∷ slice_split p (drop (k + 1) xs))
  split_some xs k e =
      let at = place (position_or_len p xs) (length xs) k e in
      (omega (arith, at.0, at.1), slice_split_first p xs 0 at.0 ∙ (λ i. take (at.1 i) xs ∷ slice_split p (drop (at.1 i + 1) xs)))

  split_none : (xs : List ℕ) → length xs ≤ position_or_len p xs → slice_split p xs ≡ xs ∷ []
  split_none [] h = refl
  split_none (x ∷ xs) h =
      elim (p x) as (λ b. p x ≡ b → slice_split p (x ∷ xs) ≡ (x ∷ xs) ∷ []) [
        | true ↦ λ e. let g = rw e at h in absurd (omega arith)
        | false ↦ λ e. let g = rw e at h in slice_split-cons_no p x xs e ∙ ap (onto_first x) (split_none xs (omega arith))
      ] refl

  pub by_place : (xs : List ℕ) (r : Option ℕ) → r ≡ position p xs →
      IfSome r (λ k. (k < length xs) × (slice_split p xs ≡ take k xs ∷ slice_split p (drop (k + 1) xs)))
      × IfNone r (slice_split p xs ≡ xs ∷ [])
  by_place xs (Some k) e = (split_some xs k (sym e), tt)
  by_place xs None e = (tt, split_none xs (no_place (position_or_len p xs) (length xs) (sym e)))

-- what was read before the rest
abbrev pub onto : {X : Type 0} → List X → Result (List X) ExprError → Result (List X) ExprError
onto xs (Ok ys) = Ok (xs ++ ys)
onto xs (Err e) = Err e

onto_cons : {X : Type 0} (xs : List X) (x : X) (r : Result (List X) ExprError) → onto xs (cons_reading (Ok x) r) ≡ onto (xs ++ x ∷ []) r
onto_cons xs x (Ok ys) = ap Ok (sym (append_assoc xs (x ∷ []) ys))
onto_cons xs x (Err e) = refl

module _ {X : Type 0} (read : ℕ → List ℕ → Result X ExprError) (all : ℕ → List (List ℕ) → Result (List X) ExprError)
    (none : (at : ℕ) → all at [] ≡ Ok [])
    (some : (at : ℕ) (t : List ℕ) (ts : List (List ℕ)) → all at (t ∷ ts) ≡ cons_reading (read at t) (all (at + length t + 1) ts)) where
  -- a part more
  pub reads_more : (whole : Result (List X) ExprError) (before after : List X) (x : X) (at at' k : ℕ) (rest : List ℕ)
      (parts parts' : List (List ℕ)) → whole ≡ onto before (all at parts) →
      k < length rest → parts ≡ take k rest ∷ parts' → read at (take k rest) ≡ Ok x → at' ≡ at + (k + 1) → after ≡ before ++ x ∷ []
      → whole ≡ onto after (all at' parts')
  reads_more whole before after x at at' k rest parts parts' so_far inside are now next added =
      let place : at + length (take k rest) + 1 ≡ at' = omega (arith, length-take-le k rest) in
      so_far
      ∙ ap (onto before) (ap (all at) are ∙ some at (take k rest) parts' ∙ (λ i. cons_reading (now i) (all (place i) parts')))
      ∙ onto_cons before x (all at' parts')
      ∙ ap (λ xs. onto xs (all at' parts')) (sym added)
