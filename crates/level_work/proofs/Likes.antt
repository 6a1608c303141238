-- Lots that have the same shares.
use Rattle.level_work.proofs.Prelude.{◌≡◌, ◌⊎◌, inl, inr, ℕ, zero, suc, List, [], ◌∷◌, map, Some, refl, ap, ◌∙◌, sym, subst, slice_get, IsAt, InLot, Dealt}
use Rattle.level_work.proofs.Prelude.{AreShares, SameShares, Stored, Item, Fate, Order, Lot}
use Rattle.level_work.proofs.Working.{first, others, same_some}

pub record At {X Y : Type 0} (f : X → Y) (xs : List X) (i : ℕ) (v : Y) : Type 0 where
  pub it : X
  pub here : slice_get xs i ≡ Some it
  pub same : f it ≡ v

pub same_place : {X Y : Type 0} (f : X → Y) (xs ys : List X) → map f ys ≡ map f xs → (i : ℕ) (y : X) → slice_get ys i ≡ Some y → At f xs i (f y)
unfolding first others
same_place f xs [] e i y at = cc
same_place f [] (y ∷ ys) e i z at = cc
same_place f (x ∷ xs) (y ∷ ys) e zero z at = record { it = x; here = refl; same = sym (ap (first (f x)) e) ∙ ap f (same_some y z at) }
same_place f (x ∷ xs) (y ∷ ys) e (suc i) z at = let r = same_place f xs ys (ap others e) i z at in record { it = r.it; here = r.here; same = r.same }

module _ {A P : Type 0} where
  -- each lot of the one list has a lot with the same places in the other
  abbrev pub Like : List (Lot A P) → List (Lot A P) → Type 0
  Like lots lots' = (i : ℕ) (lot' : Lot A P) → slice_get lots' i ≡ Some lot' → At (λ (l : Lot A P). l.places.items) lots i lot'.places.items

  in_lot : (items : List Item) (lots lots' : List (Lot A P)) (i t : ℕ) (x : Item) → Like lots lots' → InLot items lots' i t x → InLot items lots i t x
  in_lot items lots lots' i t x like l = let a = like i l.lot l.is_lot in
      record { lot = a.it; is_lot = a.here; at = subst (λ ps. IsAt items ps t x) (sym a.same) l.at }

  pub shares_over : (o : Order) (level : ℕ) (items : List Item) (old : List Fate) (lots lots' : List (Lot A P)) → Like lots lots'
      → Like lots' lots → AreShares o level items old lots → AreShares o level items old lots'
  shares_over o level items old lots lots' like back s = record {
    inside = λ i j k lot' here e. let a = like i lot' here in s.inside i j k a.it a.here (subst (λ ps. slice_get ps j ≡ Some k) (sym a.same) e);
    on_level = λ i t x l. s.on_level i t x (in_lot items lots lots' i t x like l);
    can = λ i t x l. s.can i t x (in_lot items lots lots' i t x like l);
    apart = λ i j t u x y n l m. s.apart i j t u x y n (in_lot items lots lots' i t x like l) (in_lot items lots lots' j u y like m);
    all = λ k x at lev. over k (s.all k x at lev);
  }
    where
      over : {F : Type 0} (k : ℕ) → F ⊎ Dealt lots k → F ⊎ Dealt lots' k
      over k (inl fails) = inl fails
      over k (inr d) = let a = back d.share d.lot d.is_lot in
          inr (record {
            share = d.share;
            place = d.place;
            lot = a.it;
            is_lot = a.here;
            at = subst (λ ps. slice_get ps d.place ≡ Some k) (sym a.same) d.at;
          })

  pub likes : (lots lots' : List (Lot A P)) → SameShares lots lots' → Like lots lots'
  likes lots lots' s i lot' here = let a = same_place (λ (l : Lot A P). l.places) lots lots' s.places i lot' here in
      record { it = a.it; here = a.here; same = ap (λ v. v.items) a.same }

  pub likes_back : (lots lots' : List (Lot A P)) → SameShares lots lots' → Like lots' lots
  likes_back lots lots' s i lot here = let a = same_place (λ (l : Lot A P). l.places) lots' lots (sym s.places) i lot here in
      record { it = a.it; here = a.here; same = ap (λ v. v.items) a.same }

  -- fates stored from lots are those of lots that have the same shares with the same fates
  pub stored_over : (level : ℕ) (items : List Item) (lots lots' : List (Lot A P)) (old new : List Fate) → SameShares lots lots'
      → Stored level items lots' old new → (k : ℕ) (d : Dealt lots k) → slice_get new k ≡ slice_get d.lot.fates.items d.place
  stored_over level items lots lots' old new s st k d =
      let a = same_place (λ (l : Lot A P). l.places) lots' lots (sym s.places) d.share d.lot d.is_lot in
      let b = same_place (λ (l : Lot A P). l.fates) lots' lots (sym s.fates) d.share d.lot d.is_lot in
      let same : a.it ≡ b.it = same_some a.it b.it (sym a.here ∙ b.here) in
      st.dealt k (record {
        share = d.share;
        place = d.place;
        lot = a.it;
        is_lot = a.here;
        at = ap (λ v. slice_get v.items d.place) a.same
            ∙ d.at;
      }) ∙ ap (λ (l : Lot A P). slice_get l.fates.items d.place) same ∙ ap (λ v. slice_get v.items d.place) b.same
