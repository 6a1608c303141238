-- Lists of lists whose elements move, one or some at a time.
use Rattle.flat_list.proofs.Prelude.{◌≡◌, ℕ, zero, suc, ◌<◌, List, [], ◌∷◌, ◌++◌, length, set, get_or, ap, sym, subst, ◌∙◌, arith, flat_map, IsPermutation}
use Rattle.flat_list.proofs.Prelude.{flat_map-append, append_assoc, append-nil, IsPermutation-refl, IsPermutation-trans, IsPermutation-append_left}
use Rattle.flat_list.proofs.Prelude.{IsPermutation-append_right, IsPermutation-append_comm}

module _ {A : Type 0} where
  abbrev pub flat : List (List A) → List A
  flat xs = flat_map (λ x. x) xs

  pub same : (xs ys : List A) → xs ≡ ys → IsPermutation xs ys
  same xs ys is = subst (IsPermutation xs) is (IsPermutation-refl xs)

  passed_by : (a x r : List A) → IsPermutation (a ++ (x ++ r)) (x ++ (a ++ r))
  passed_by a x r =
      let swap = IsPermutation-append_left r (a ++ x) (x ++ a) (IsPermutation-append_comm a x) in
      subst (λ ys. IsPermutation (a ++ (x ++ r)) ys) (append_assoc x a r) (subst (λ xs. IsPermutation xs ((x ++ a) ++ r)) (append_assoc a x r) swap)

  -- one of the lists gives what is in front to a list before them
  pub one_gives : (all all' : List A) (xs : List (List A)) (k : ℕ) (s s' : List A) → k < length xs → s ≡ get_or xs k s → all' ++ s' ≡ all ++ s →
      IsPermutation (all ++ flat xs) (all' ++ flat (set xs k s'))
  one_gives all all' [] k s s' lt here moved = absurd (omega arith)
  one_gives all all' (x ∷ xs) zero s s' lt here moved =
      let r = flat xs in
      same _ _ (sym (append_assoc all x r) ∙ ap (λ y. (all ++ y) ++ r) (sym here) ∙ ap (λ y. y ++ r) (sym moved) ∙ append_assoc all' s' r)
  one_gives all all' (x ∷ xs) (suc k) s s' lt here moved =
      let rest = one_gives all all' xs k s s' (omega arith) here moved in
      IsPermutation-trans _ _ _ (passed_by all x (flat xs))
      (IsPermutation-trans _ _ _ (IsPermutation-append_right x _ _ rest) (passed_by x all' (flat (set xs k s'))))

  -- a list more behind the lists
  pub flat_more : (xs : List (List A)) (x : List A) → flat (xs ++ x ∷ []) ≡ flat xs ++ x
  flat_more xs x = flat_map-append (λ y. y) xs (x ∷ []) ∙ ap (λ y. flat xs ++ y) (append-nil x)

  -- what a list has moves behind, and what was read of others did before
  pub log_more : {L : Type 0} (f : L → List A) (logs : List L) (log : L) (all all' : List A) → IsPermutation (flat_map f logs) all →
      IsPermutation (all ++ f log) all' → IsPermutation (flat_map f (logs ++ log ∷ [])) all'
  log_more f logs log all all' p q =
      let joined = flat_map-append f logs (log ∷ []) ∙ ap (λ y. flat_map f logs ++ y) (append-nil (f log)) in
      subst (λ l. IsPermutation l all') (sym joined) (IsPermutation-trans _ _ _ (IsPermutation-append_left (f log) _ _ p) q)
