-- Two parts of a list of lists, each moved, and moved again as one.
use Rattle.flat_list.proofs.Prelude.{◌≡◌, ℕ, List, ◌++◌, take, drop, ap, ap₂, sym, subst, ◌∙◌, flat_map, IsPermutation, flat_map-append, take-append-drop}
use Rattle.flat_list.proofs.Prelude.{IsPermutation-append, IsPermutation-trans}

module _ {L A : Type 0} (f : L → List A) where
  parted : (logs front back : List L) (n : ℕ) → front ≡ take n logs → back ≡ drop n logs → flat_map f front ++ flat_map f back ≡ flat_map f logs
  parted logs front back n is_front is_back =
      sym (flat_map-append f front back) ∙ ap (λ xs. flat_map f xs) (ap₂ ◌++◌ is_front is_back ∙ take-append-drop n logs)

  pub halves_moved : (logs front back : List L) (n : ℕ) (one other list : List A) → front ≡ take n logs → back ≡ drop n logs →
      IsPermutation (flat_map f front) one → IsPermutation (flat_map f back) other →
      IsPermutation (one ++ other) list → IsPermutation (flat_map f logs) list
  halves_moved logs front back n one other list is_front is_back p q all =
      let both = IsPermutation-append _ _ _ _ p q in
      IsPermutation-trans _ _ _ (subst (λ xs. IsPermutation xs (one ++ other)) (parted logs front back n is_front is_back) both) all
