-- The entries of runs, of a piece and of what waits, as they move.
use Rattle.flat_list.proofs.Prelude.{arith, ◌≡◌, ◌-◌, List, [], ◌∷◌, ◌++◌, length, take, ap, sym, subst, ◌∙◌, IsPermutation, append_assoc, append-nil}
use Rattle.flat_list.proofs.Prelude.{IsPermutation-append_left, IsPermutation-append_right, IsPermutation-append_comm, IsPermutation-trans}
use Rattle.flat_list.proofs.Merged.{flat, flat_more}

module _ {A : Type 0} where
  -- one more behind the piece, which held all but for what only moved
  pub put : (before all runs p p' : List A) (e : A) → IsPermutation before (runs ++ p) → p' ≡ p ++ e ∷ [] → IsPermutation (runs ++ p') all →
      IsPermutation (before ++ e ∷ []) all
  put before all runs p p' e moved put_one ended =
      let more = IsPermutation-append_left (e ∷ []) _ _ moved in
      let is : (runs ++ p) ++ e ∷ [] ≡ runs ++ p' = append_assoc runs p (e ∷ []) ∙ ap (λ xs. runs ++ xs) (sym put_one) in
      IsPermutation-trans _ _ _ (subst (IsPermutation (before ++ e ∷ [])) is more) ended

  -- the piece becomes a run
  pub closed : (runs runs' : List (List A)) (p run p' : List A) → runs' ≡ runs ++ run ∷ [] → IsPermutation p run → p' ≡ [] →
      IsPermutation (flat runs ++ p) (flat runs' ++ p')
  closed runs runs' p run p' more moved none =
      let is : flat runs' ++ [] ≡ flat runs ++ run = append-nil (flat runs') ∙ ap flat more ∙ flat_more runs run in
      subst (λ xs. IsPermutation (flat runs ++ p) (flat runs' ++ xs)) (sym none)
      (subst (IsPermutation (flat runs ++ p)) (sym is) (IsPermutation-append_right (flat runs) _ _ moved))

  -- neither a piece nor what waits is left
  pub none_left : (r p w : List A) → p ≡ [] → length w ≡ 0 → (r ++ p) ++ w ≡ r
  none_left r p [] is none = append-nil (r ++ p) ∙ ap (λ xs. r ++ xs) is ∙ append-nil r
  none_left r p (x ∷ w) is none = absurd (omega (arith, none))

  -- one entry more that waits
  pub one_waits : (before held w w' : List A) (e : A) → IsPermutation before (held ++ w) → w' ≡ w ++ e ∷ [] →
      IsPermutation (before ++ e ∷ []) (held ++ w')
  one_waits before held w w' e moved put_one =
      let more = IsPermutation-append_left (e ∷ []) _ _ moved in
      subst (IsPermutation (before ++ e ∷ [])) (append_assoc held w (e ∷ []) ∙ ap (λ xs. held ++ xs) (sym put_one)) more

  -- one that goes to the piece past what waits
  pub passes : (held held' w : List A) (e : A) → IsPermutation (held ++ e ∷ []) held' → IsPermutation (held ++ (w ++ e ∷ [])) (held' ++ w)
  passes held held' w e put_one =
      let swap = IsPermutation-append_right held _ _ (IsPermutation-append_comm w (e ∷ [])) in
      let front = IsPermutation-append_left w _ _ put_one in
      IsPermutation-trans _ _ _ swap (subst (λ xs. IsPermutation xs (held' ++ w)) (append_assoc held (e ∷ []) w) front)

  pub one_put : (before held held' w : List A) (e : A) → IsPermutation before (held ++ w) → IsPermutation (held ++ e ∷ []) held' →
      IsPermutation (before ++ e ∷ []) (held' ++ w)
  one_put before held held' w e moved put_one =
      let more = IsPermutation-append_left (e ∷ []) _ _ moved in
      let is : (held ++ w) ++ e ∷ [] ≡ held ++ (w ++ e ∷ []) = append_assoc held w (e ∷ []) in
      IsPermutation-trans _ _ _ (subst (IsPermutation (before ++ e ∷ [])) is more) (passes held held' w e put_one)

  -- what waited last goes to the piece, told by what each call does
  pub moved : (held held' w w' : List A) (e : A) → w ≡ take (length w - 1) w ++ e ∷ [] → IsPermutation (held ++ e ∷ []) held' →
      w' ≡ take (length w - 1) w → IsPermutation (held ++ w) (held' ++ w')
  moved held held' w w' e last put_one left =
      let front = take (length w - 1) w in
      subst (λ xs. IsPermutation (held ++ xs) (held' ++ w')) (sym last)
      (subst (λ xs. IsPermutation (held ++ (front ++ e ∷ [])) (held' ++ xs)) (sym left) (passes held held' front e put_one))

  -- the last entry that is left goes behind the others
  pub last_behind : (all left before list list' : List A) (e : A) → IsPermutation all (left ++ list) → left ≡ before ++ e ∷ [] →
      list' ≡ list ++ e ∷ [] →
      IsPermutation all (before ++ list')
  last_behind all left before list list' e moved last put_one =
      let split : left ++ list ≡ before ++ (e ∷ [] ++ list) = ap (λ xs. xs ++ list) last ∙ append_assoc before (e ∷ []) list in
      let swap = IsPermutation-append_right before _ _ (IsPermutation-append_comm (e ∷ []) list) in
      subst (λ xs. IsPermutation all (before ++ xs)) (sym put_one) (IsPermutation-trans _ _ _ (subst (IsPermutation all) split moved) swap)

  -- the last of some lists goes behind others
  pub taken : (runs runs' : List (List A)) (run all : List A) → runs ≡ runs' ++ run ∷ [] → IsPermutation (flat runs ++ all) (flat runs' ++ (all ++ run))
  taken runs runs' run all is =
      let split : flat runs ++ all ≡ flat runs' ++ (run ++ all) =
      ap (λ xs. xs ++ all) (ap flat is ∙ flat_more runs' run) ∙ append_assoc (flat runs') run all in
      subst (λ xs. IsPermutation xs (flat runs' ++ (all ++ run))) (sym split) (IsPermutation-append_right (flat runs') _ _ (IsPermutation-append_comm run all))

  -- one more behind what moved
  pub one_behind : (from xs ys zs : List A) (e : A) → IsPermutation (from ++ xs) ys → IsPermutation (ys ++ e ∷ []) zs →
      IsPermutation (from ++ (xs ++ e ∷ [])) zs
  one_behind from xs ys zs e p q =
      subst (λ l. IsPermutation l zs) (append_assoc from xs (e ∷ [])) (IsPermutation-trans _ _ _ (IsPermutation-append_left (e ∷ []) _ _ p) q)
