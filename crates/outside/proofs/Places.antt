-- The first of some lists of tops.
use Rattle.outside.proofs.Prelude.{◌≡◌, ℕ, zero, suc, ◌+◌, ◌<◌, ◌≤◌, true, false, cond, ◌||◌, List, [], ◌∷◌, length, get_or, refl, ap, ◌∙◌, sym, arith}
use Rattle.outside.proofs.Prelude.{slice_get, Some, below_more, false≢true, slice_get_within, get_or_from_slice_get, list_any, remove, same_tops, without_tops}

-- none of the first k is these tops
abbrev pub NoneBefore : ℕ → List (List ℕ) → List (List (List ℕ)) → Type 0
NoneBefore k tops lent = (j : ℕ) (v : List (List ℕ)) → j < k → slice_get lent j ≡ Some v → same_tops v tops ≡ false

pub first_place : (lent : List (List (List ℕ))) (k : ℕ) (tops : List (List ℕ)) (d : List (List ℕ)) → NoneBefore k tops lent
    → k < length lent → same_tops (get_or lent k d) tops ≡ true → without_tops tops lent ≡ remove lent k
first_place [] k tops d n l e = absurd (omega arith)
first_place (v ∷ lent) zero tops d n l e = ap (λ b. cond b lent (v ∷ without_tops tops lent)) e
first_place (v ∷ lent) (suc k) tops d n l e =
    ap (λ b. cond b lent (v ∷ without_tops tops lent)) (n 0 v (omega arith) refl)
    ∙ ap (λ r. v ∷ r) (first_place lent k tops d (λ j w m at. n (suc j) w (omega (arith, m)) at) (omega (arith, l)) e)

none_of : (lent : List (List (List ℕ))) (tops : List (List ℕ))
    → ((j : ℕ) (v : List (List ℕ)) → slice_get lent j ≡ Some v → same_tops v tops ≡ false)
    → list_any (λ one. same_tops one tops) lent ≡ false
none_of [] tops n = refl
none_of (v ∷ lent) tops n = ap (λ b. b || list_any (λ one. same_tops one tops) lent) (n 0 v refl) ∙ none_of lent tops (λ j w at. n (suc j) w at)

pub some_place : (lent : List (List (List ℕ))) (k : ℕ) (tops : List (List ℕ)) → NoneBefore k tops lent → length lent ≤ k
    → list_any (λ one. same_tops one tops) lent ≡ true → ⊥
some_place lent k tops n l e = false≢true (sym (none_of lent tops (λ j v at. n j v (omega (arith, l, slice_get_within lent j v at)) at)) ∙ e)

pub more_before : (lent : List (List (List ℕ))) (k : ℕ) (tops : List (List ℕ)) (d : List (List ℕ)) → NoneBefore k tops lent
    → k < length lent → same_tops (get_or lent k d) tops ≡ false → NoneBefore (k + 1) tops lent
more_before lent k tops d n l e j v m at =
    below_more (λ i. (w : List (List ℕ)) → slice_get lent i ≡ Some w → same_tops w tops ≡ false) k (λ i less w here. n i w less here)
    (λ w here. ap (λ x. same_tops x tops) (sym (get_or_from_slice_get lent k w d here)) ∙ e) j m v at
