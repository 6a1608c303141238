-- The seats of a table over atomic words, one for each rank. The first seat makes the others, one after the other. A seat comes to know more by its
-- own steps, and may take another seat in, which is spent.
use Rattle.ring_core.proofs.Prelude.{◌≡◌, ℕ, zero, suc, ◌+◌, ◌<◌, ◌≤◌, ◌≢◌, ◌⊎◌, inl, inr, ⊎_elim, refl, sym, subst, ap, ◌∙◌, arith, Bool, true, false, List}
use Rattle.ring_core.proofs.Prelude.{[], ◌∷◌, ◌++◌, length, get_or, set, length-set, length-append, All, All-nil, All-cons, All-append, some, some-injective}
use Rattle.ring_core.proofs.Prelude.{some-ne-none, get_elem?, at_set, set_else, set_here, at_longer, put}
use Rattle.ring_core.proofs.PictureLemmas.{put_here, put_elsewhere}

module _ {A : Type 0} where
  pub within : (l : List A) (i : ℕ) (x : A) → get_elem? l i ≡ some x → i < length l
  within [] i x e = absurd (some-ne-none x (sym e))
  within (y ∷ l) zero x e = omega arith
  within (y ∷ l) (suc i) x e = let h = within l i x e in omega arith

  -- the one after the last
  at_end : (l : List A) (a : A) (k : ℕ) (b : A) → get_elem? (l ++ a ∷ []) k ≡ some b → (get_elem? l k ≡ some b) ⊎ ((k ≡ length l) × (a ≡ b))
  at_end [] a zero b e = inr (refl, some-injective a b e)
  at_end [] a (suc k) b e = absurd (some-ne-none b (sym e))
  at_end (x ∷ l) a zero b e = inl e
  at_end (x ∷ l) a (suc k) b e = ⊎_elim (λ t. inl t) (λ t. inr (ap suc t.0, t.1)) (at_end l a k b e)

-- what the view V of a seat shows: the knowledge K of its rank, how many seats there are if it may make others, the knowledge of the seats
-- that it took in, and whether it is in use
pub record Face (K V : Type 0) : Type 0 where
  pub own : V → K
  pub made : V → ℕ
  pub kept : V → List K
  pub live : V → Bool
  pub number : K → ℕ

module _ {K V : Type 0} (F : Face K V) where
  -- a seat that was taken in: its rank keeps its knowledge, and the seat is spent
  abbrev pub TakenIn : ℕ → (ℕ → K) → List V → K → Type 0
  TakenIn n known views x = (F.number x < n) × (known (F.number x) ≡ x) × ((u : V) × (get_elem? views (F.number x) ≡ some u) × (F.live u ≡ false))

-- the seats of n ranks, of which each has this knowledge; one that is not made yet has the knowledge of a fresh one
pub record Seats {K V : Type 0} (F : Face K V) (n : ℕ) (known fresh : ℕ → K) (views : List V) : Type 0 where
  pub seated : (k : ℕ) (v : V) → get_elem? views k ≡ some v → F.live v ≡ true → (k < n) × (known k ≡ F.own v)
  pub kept : (k : ℕ) (v : V) → get_elem? views k ≡ some v → All (TakenIn F n known views) (F.kept v)
  pub dealt : (k : ℕ) (v : V) → get_elem? views k ≡ some v → (F.made v ≡ 0) ⊎ ((k ≡ 0) × (F.made v ≡ length views))
  pub unmade : (r : ℕ) → length views ≤ r → known r ≡ fresh r

module _ {K V : Type 0} (F : Face K V) where
  -- a seat that is in use is not one that is spent
  pub elsewhere : (views : List V) (k id : ℕ) (v u : V) → get_elem? views id ≡ some v → F.live v ≡ true → get_elem? views k ≡ some u → F.live u ≡ false
      → k ≢ id
  elsewhere views k id v u here live there dead e =
      (let same : v ≡ u = some-injective v u (sym here ∙ ap (get_elem? views) (sym e) ∙ there) in
      let both_ways : F.live v ≡ false = ap F.live same ∙ dead in cc)

  -- the table has one seat, the first
  pub first_seat : (n : ℕ) (fresh : ℕ → K) (x : V) → 0 < n → fresh 0 ≡ F.own x → F.made x ≡ 1 → F.kept x ≡ [] → Seats F n fresh fresh (x ∷ [])
  first_seat n fresh x some_rank own made kept = record {
    seated = λ k v e live. seated k v e;
    kept = λ k v e. none k v e;
    dealt = λ k v e. dealt k v e;
    unmade = λ r h. refl;
  }
    where
      seated : (k : ℕ) (v : V) → get_elem? (x ∷ []) k ≡ some v → (k < n) × (fresh k ≡ F.own v)
      seated zero v e = (some_rank, own ∙ ap F.own (some-injective x v e))
      seated (suc k) v e = absurd (some-ne-none v (sym e))

      none : (k : ℕ) (v : V) → get_elem? (x ∷ []) k ≡ some v → All (TakenIn F n fresh (x ∷ [])) (F.kept v)
      none zero v e = subst (All (TakenIn F n fresh (x ∷ []))) (sym kept ∙ ap F.kept (some-injective x v e)) (All-nil (TakenIn F n fresh (x ∷ [])))
      none (suc k) v e = absurd (some-ne-none v (sym e))

      dealt : (k : ℕ) (v : V) → get_elem? (x ∷ []) k ≡ some v → (F.made v ≡ 0) ⊎ ((k ≡ 0) × (F.made v ≡ 1))
      dealt zero v e = inr (refl, ap F.made (sym (some-injective x v e)) ∙ made)
      dealt (suc k) v e = absurd (some-ne-none v (sym e))

module _ {K V : Type 0} {F : Face K V} {n : ℕ} {known fresh : ℕ → K} {views : List V} (S : Seats F n known fresh views) (id : ℕ) (v : V)
    (here : get_elem? views id ≡ some v) (live : F.live v ≡ true) where
  -- the seat comes to know w
  pub seat_knows : (w : K) (x : V) → w ≡ F.own x → F.kept x ≡ F.kept v → F.made x ≡ F.made v → Seats F n (put known id w) fresh (set views id x)
  seat_knows w x own kept made = record {
    seated = λ k u e lives. ⊎_elim
        (λ t. (
          subst (λ (j : ℕ). j < n) (sym t.0) (S.seated id v here live).0,
          ap (put known id w) t.0 ∙ put_here known id w ∙ own ∙ ap F.own t.1,
        ))
        (λ t. let old = S.seated k u t.1 lives in (old.0, put_elsewhere known id w k t.0 ∙ old.1))
        (at_set views id k x u e);
    kept = λ k u e i d h.
        (let p = ⊎_elim {C = All (TakenIn F n known views) (F.kept u)}
        (λ t. subst (All (TakenIn F n known views)) (sym kept ∙ ap F.kept t.1) (S.kept id v here)) (λ t. S.kept k u t.1)
        (at_set views id k x u e) i d h in
        let y : K = get_or (F.kept u) i d in
        let ne : F.number y ≢ id = elsewhere F views (F.number y) id v p.2.0 here live p.2.1 p.2.2 in
        (p.0, put_elsewhere known id w (F.number y) ne ∙ p.1, (p.2.0, set_else views id (F.number y) x ne ∙ p.2.1, p.2.2)));
    dealt = λ k u e. subst (λ (l : ℕ). (F.made u ≡ 0) ⊎ ((k ≡ 0) × (F.made u ≡ l))) (sym (length-set views id x))
        (⊎_elim
        (λ t. subst (λ (m : ℕ). (m ≡ 0) ⊎ ((k ≡ 0) × (m ≡ length views))) (sym made ∙ ap F.made t.1)
        (subst (λ (j : ℕ). (F.made v ≡ 0) ⊎ ((j ≡ 0) × (F.made v ≡ length views))) (sym t.0) (S.dealt id v here)))
        (λ t. S.dealt k u t.1) (at_set views id k x u e));
    unmade = λ r beyond. let inside = within views id v here in let same = length-set views id x in
        put_elsewhere known id w r (λ e. omega arith) ∙ S.unmade r (omega arith);
  }

  -- as many seats were made as the seat says that makes the next one
  pub all_made : 0 < F.made v → (id ≡ 0) × (F.made v ≡ length views)
  all_made first = ⊎_elim (λ e. absurd (omega arith)) (λ t. t) (S.dealt id v here)

  -- the seat makes the next one, which is fresh
  pub seat_deals : (x y : V) → 0 < F.made v → F.made v < n → F.own x ≡ F.own v → F.kept x ≡ F.kept v → F.made x ≡ F.made v + 1
      → fresh (F.made v) ≡ F.own y → F.kept y ≡ [] → F.made y ≡ 0 → Seats F n known fresh (set views id x ++ y ∷ [])
  seat_deals x y first room own kept made own_new kept_new made_new =
      let long : (id ≡ 0) × (F.made v ≡ length views) = all_made first in
      let was = S.seated id v here live in
      let vs : List V = set views id x in
      let same : length vs ≡ length views = length-set views id x in
      let longer : length (vs ++ y ∷ []) ≡ length views + 1 = omega (arith, length-append vs (y ∷ [])) in
      record {
        seated = λ k u e lives. ⊎_elim
            (λ old. ⊎_elim
            (λ t. (subst (λ (j : ℕ). j < n) (sym t.0) was.0, ap known t.0 ∙ was.1 ∙ sym own ∙ ap F.own t.1))
            (λ t. S.seated k u t.1 lives) (at_set views id k x u old))
            (λ new. (let at : k ≡ F.made v = new.0 ∙ same ∙ sym long.1 in
            (omega arith, ap known at ∙ S.unmade (F.made v) (omega (arith, long.1)) ∙ own_new ∙ ap F.own new.1)))
            (at_end vs y k u e);
        kept = λ k u e. ⊎_elim
            (λ old. λ i d h. (let p = ⊎_elim {C = All (TakenIn F n known views) (F.kept u)}
            (λ t. subst (All (TakenIn F n known views)) (sym kept ∙ ap F.kept t.1) (S.kept id v here)) (λ t. S.kept k u t.1)
            (at_set views id k x u old) i d h in
            let z : K = get_or (F.kept u) i d in
            let ne : F.number z ≢ id = elsewhere F views (F.number z) id v p.2.0 here live p.2.1 p.2.2 in
            (p.0, p.1, (p.2.0, at_longer vs (y ∷ []) (F.number z) p.2.0 (set_else views id (F.number z) x ne ∙ p.2.1), p.2.2))))
            (λ new. subst (All (TakenIn F n known (vs ++ y ∷ []))) (sym kept_new ∙ ap F.kept new.1) (All-nil (TakenIn F n known (vs ++ y ∷ []))))
            (at_end vs y k u e);
        dealt = λ k u e. ⊎_elim
            (λ old. ⊎_elim
            (λ t. inr (t.0 ∙ long.0, ap F.made (sym t.1) ∙ made ∙ ap (λ (m : ℕ). m + 1) long.1 ∙ sym longer))
            (λ t. ⊎_elim (λ none. inl none) (λ r. absurd (t.0 (r.0 ∙ sym long.0))) (S.dealt k u t.1)) (at_set views id k x u old))
            (λ new. inl (ap F.made (sym new.1) ∙ made_new))
            (at_end vs y k u e);
        unmade = λ r beyond. S.unmade r (omega arith);
      }

  -- the seat takes another in, which is spent
  pub seat_joins : (other : ℕ) (w x y : V) → ((r : ℕ) → r < n → F.number (known r) ≡ r) → other ≢ id → get_elem? (set views id x) other ≡ some w
      → F.live w ≡ true → F.own x ≡ F.own v → F.kept x ≡ F.kept v ++ F.own w ∷ F.kept w → F.made x ≡ F.made v → F.live y ≡ false → F.kept y ≡ []
      → F.made y ≡ 0 → Seats F n known fresh (set (set views id x) other y)
  seat_joins other w x y named apart there lives own kept made dead kept_spent made_spent =
      let us : List V = set views id x in
      let vs : List V = set us other y in
      let there2 : get_elem? views other ≡ some w = sym (set_else views id other x apart) ∙ there in
      let same : length vs ≡ length views = length-set us other y ∙ length-set views id x in
      let moved : (z : K) → TakenIn F n known views z → TakenIn F n known vs z = λ z p.
      (let a : F.number z ≢ id = elsewhere F views (F.number z) id v p.2.0 here live p.2.1 p.2.2 in
      let b : F.number z ≢ other = elsewhere F views (F.number z) other w p.2.0 there2 lives p.2.1 p.2.2 in
      (p.0, p.1, (p.2.0, set_else us other (F.number z) y b ∙ set_else views id (F.number z) x a ∙ p.2.1, p.2.2))) in
      let all_moved : (ks : List K) → All (TakenIn F n known views) ks → All (TakenIn F n known vs) ks = λ ks all i d h. moved (get_or ks i d) (all i d h) in
      let was = S.seated other w there2 lives in
      let number : other ≡ F.number (F.own w) = sym (named other was.0) ∙ ap F.number was.1 in
      let taken_in : TakenIn F n known vs (F.own w) = (
        subst (λ (j : ℕ). j < n) number was.0,
        ap known (sym number) ∙ was.1,
        (y, ap (get_elem? vs) (sym number) ∙ set_here us other y (within us other w there), dead),
      ) in
      record {
        seated = λ k u e lit. ⊎_elim
            (λ t. absurd (let dark : F.live u ≡ false = ap F.live (sym t.1) ∙ dead in cc))
            (λ t. ⊎_elim
            (λ q. let mine = S.seated id v here live in (subst (λ (j : ℕ). j < n) (sym q.0) mine.0, ap known q.0 ∙ mine.1 ∙ sym own ∙ ap F.own q.1))
            (λ q. S.seated k u q.1 lit) (at_set views id k x u t.1))
            (at_set us other k y u e);
        kept = λ k u e. ⊎_elim
            (λ t. subst (All (TakenIn F n known vs)) (sym kept_spent ∙ ap F.kept t.1) (All-nil (TakenIn F n known vs)))
            (λ t. ⊎_elim
            (λ q. subst (All (TakenIn F n known vs)) (sym kept ∙ ap F.kept q.1)
            (All-append (TakenIn F n known vs) (F.kept v) (F.own w ∷ F.kept w) (all_moved (F.kept v) (S.kept id v here))
            (All-cons (TakenIn F n known vs) (F.own w) (F.kept w) taken_in (all_moved (F.kept w) (S.kept other w there2)))))
            (λ q. all_moved (F.kept u) (S.kept k u q.1)) (at_set views id k x u t.1))
            (at_set us other k y u e);
        dealt = λ k u e. subst (λ (l : ℕ). (F.made u ≡ 0) ⊎ ((k ≡ 0) × (F.made u ≡ l))) (sym same) (⊎_elim
            (λ t. inl (ap F.made (sym t.1) ∙ made_spent))
            (λ t. ⊎_elim
            (λ q. subst (λ (m : ℕ). (m ≡ 0) ⊎ ((k ≡ 0) × (m ≡ length views))) (sym made ∙ ap F.made q.1)
            (subst (λ (j : ℕ). (F.made v ≡ 0) ⊎ ((j ≡ 0) × (F.made v ≡ length views))) (sym q.0) (S.dealt id v here)))
            (λ q. S.dealt k u q.1) (at_set views id k x u t.1))
            (at_set us other k y u e));
        unmade = λ r beyond. S.unmade r (omega arith);
      }
