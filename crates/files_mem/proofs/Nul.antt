-- A path holds no NUL.
use Rattle.files_mem.proofs.Prelude.{◌≡◌, ℕ, ◌<◌, Bool, true, false, ◌||◌, List, [], ◌∷◌, length, refl, ap, ◌∙◌, sym, arith, cond, Some, None, ◌==◌, list_any}
use Rattle.files_mem.proofs.Prelude.{slice_split, onto_first, is_none, nat_tests, is_slash, name_fault, first_fault, refusal, or_from, some_part}

abbrev pub is_nul : ℕ → Bool
is_nul b = b == 0

any_onto : (x : ℕ) (ps : List (List ℕ)) → 0 < length ps → list_any (list_any is_nul) (onto_first x ps) ≡ (is_nul x || list_any (list_any is_nul) ps)
any_onto x [] h = absurd (omega arith)
any_onto x (p ∷ ps) h = elim (is_nul x) as
    (λ b. ((b || list_any is_nul p) || list_any (list_any is_nul) ps)
    ≡ (b || (list_any is_nul p || list_any (list_any is_nul) ps))) [ true ↦ refl | false ↦ refl ]

any_split : (xs : List ℕ) → list_any (list_any is_nul) (slice_split is_slash xs) ≡ list_any is_nul xs
any_split [] = refl
any_split (x ∷ xs) =
    elim (is_slash x) as (λ b. is_slash x ≡ b
    → list_any (list_any is_nul) (cond b ([] ∷ slice_split is_slash xs) (onto_first x (slice_split is_slash xs)))
    ≡ (is_nul x || list_any is_nul xs)) [
      | true ↦ λ e. any_split xs ∙ ap (λ b. b || list_any is_nul xs) (sym (slash_no_nul x e))
      | false ↦ λ e. any_onto x (slice_split is_slash xs) (some_part xs) ∙ ap (λ b. is_nul x || b) (any_split xs)
    ] refl
  where
    slash_no_nul : (x : ℕ) → is_slash x ≡ true → is_nul x ≡ false
    slash_no_nul x e = grind (arith, nat_tests)

fine_name : (name : List ℕ) → name_fault name ≡ None → list_any is_nul name ≡ false
fine_name name e = grind (arith, nat_tests)

no_fault : (names : List (List ℕ)) → first_fault names ≡ None → list_any (list_any is_nul) names ≡ false
no_fault [] e = refl
no_fault (n ∷ names) e =
    elim (name_fault n) as (λ f. name_fault n ≡ f → cond (is_none f) (first_fault names) f ≡ None
    → (list_any is_nul n || list_any (list_any is_nul) names) ≡ false) [
      | None ↦ λ is e. ap (λ b. b || list_any (list_any is_nul) names) (fine_name n is) ∙ no_fault names e
      | Some x ↦ λ is e. cc
    ] refl e

first_slash : (b : ℕ) (bytes : List ℕ) → refusal (b ∷ bytes) ≡ None → (b == 0) ≡ false
first_slash b bytes h = grind (arith, nat_tests)

names_fine : (b c : ℕ) (bytes : List ℕ) → refusal (b ∷ c ∷ bytes) ≡ None → first_fault (slice_split is_slash (c ∷ bytes)) ≡ None
names_fine b c bytes h = grind (arith, nat_tests)

pub no_nul : (x : List ℕ) → refusal x ≡ None → list_any is_nul x ≡ false
no_nul [] h = refl
no_nul (b ∷ []) h = or_from (b == 0) false (first_slash b [] h) refl
no_nul (b ∷ c ∷ bytes) h =
    or_from (b == 0) (list_any is_nul (c ∷ bytes)) (first_slash b (c ∷ bytes) h)
    (sym (any_split (c ∷ bytes)) ∙ no_fault (slice_split is_slash (c ∷ bytes)) (names_fine b c bytes h))
