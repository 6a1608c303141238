-- What the shares of a level did, over the map before the level.
use Rattle.level_work.proofs.Prelude.{◌≡◌, ℕ, ◌<◌, true, false, List, length, Option, Some, None, IfSome, refl, ap, ◌∙◌, sym, subst, arith, slice_get, is_some}
use Rattle.level_work.proofs.Prelude.{false≢true, slice_get_within, get_or_from_slice_get, slice_index_or, Files, Area, in_tops, tops_of, Deed, at_and_under}
use Rattle.level_work.proofs.Prelude.{AreItems, IsAt, HasWorked, WorkedOn, SameButFirst, ArePaths, AreShares, AreOut, AllReady, Item, Fate, Order, Lot}
use Rattle.level_work.proofs.Frames.{same_at}
use Rattle.level_work.proofs.Leveled.{SharesTold, inside}
use Rattle.level_work.proofs.Working.{some_at}

module _ {A P D : Type 0} (tree : Option P → Option Files) (area : Option P → Area) (part_count : Option P → ℕ) (plain : A → D)
    (count : A → ℕ) (deed : D → Deed) where
  -- the lot that a lot was before its work
  pub record Was (items : List Item) (lots : List (Lot A P)) (i : ℕ) (lot' : Lot A P) : Type 0 where
    pub lot : Lot A P
    pub here : slice_get lots i ≡ Some lot
    pub did : HasWorked tree area part_count plain count deed items lot lot'

  pub was : (items : List Item) (lots lots' : List (Lot A P)) → length lots' ≡ length lots
      → ((i : ℕ) (d : Lot A P) → i < length lots
      → HasWorked tree area part_count plain count deed items (slice_index_or lots i d) (slice_index_or lots' i d))
      → (i : ℕ) (lot' : Lot A P) → slice_get lots' i ≡ Some lot' → Was items lots i lot'
  was items lots lots' len did i lot' here' =
      let l : i < length lots = omega (arith, len, slice_get_within lots' i lot' here') in
      let x = some_at lots i l in
      record {
        lot = x.0;
        here = x.1;
        did = subst (λ (y : Lot A P). HasWorked tree area part_count plain count deed items x.0 y)
            (get_or_from_slice_get lots' i lot' lot' here')
            (subst (λ (y : Lot A P). HasWorked tree area part_count plain count deed items y (slice_index_or lots' i lot'))
            (get_or_from_slice_get lots i x.0 lot' x.1) (did i lot' l));
      }

  -- where both tell
  pub opened : (R : Files → Files → Type 0) (t t' : Option Files) (a b : Files) → t ≡ Some a → t' ≡ Some b → IfSome t (λ x. IfSome t' (R x)) → R a b
  opened R t t' a b e f r = subst (λ o. IfSome o (R a)) f (subst (λ o. IfSome o (λ x. IfSome t' (R x))) e r)

  pub told_own : (t : Option Files) → is_some t ≡ true → (a : Files) × (t ≡ Some a)
  told_own None e = absurd (false≢true e)
  told_own (Some a) e = (a, refl)

  pub shares_told : (d : D) (o : Order) (level : ℕ) (items : List Item) (old : List Fate) (lots lots' : List (Lot A P)) (before rest : Files) →
      AreItems items → AreShares o level items old lots → AllReady area items lots → AreOut tree area lots before rest
      → ((i : ℕ) (lot' : Lot A P) → slice_get lots' i ≡ Some lot' → Was items lots i lot') →
      ((i : ℕ) (lot : Lot A P) → slice_get lots i ≡ Some lot → plain lot.actor ≡ d)
      → ((i : ℕ) (lot' : Lot A P) → slice_get lots' i ≡ Some lot' → lot'.lost ≡ false) →
      ((i t : ℕ) (x : Item) (lot : Lot A P) → slice_get lots i ≡ Some lot → IsAt items lot.places.items t x → is_some (tree lot.part) ≡ true) →
      ((q : List ℕ) → ((i : ℕ) (lot' : Lot A P) → slice_get lots' i ≡ Some lot' → in_tops (tops_of (area lot'.part)) q ≡ false)
      → (i : ℕ) (lot : Lot A P) → slice_get lots i ≡ Some lot → in_tops (tops_of (area lot.part)) q ≡ false) →
      SharesTold tree area (deed d) items lots' before rest
  shares_told d o level items old lots lots' before rest are s ready out was shows found tells nowhere = record {
    paths = λ i lot' here. let w = was i lot' here in
        subst (λ a. ArePaths items lot'.places.items (tops_of a)) (sym w.did.keeps.same_area)
        (subst (λ v. ArePaths items v.items (tops_of (area w.lot.part))) (sym w.did.keeps.places) (ready.paths i w.lot w.here));
    owns = λ i t x lot' here at. let w = was i lot' here in
        let own = told_own (tree lot'.part)
        (w.did.keeps.tells ∙ tells i t x w.lot w.here (subst (λ v. IsAt items v.items t x) w.did.keeps.places at)) in
        record { own = own.0; tells = own.1 };
    left = λ q none. out.left q (nowhere q none);
    kept = λ i lot' own' q here shows' on off. let w = was i lot' here in
        let own = told_own (tree w.lot.part) (sym w.did.keeps.tells ∙ ap is_some shows') in
        opened (SameButFirst (length w.lot.places.items) items w.lot.places.items) (tree w.lot.part)
        (tree lot'.part) own.0 own' own.1 shows' w.did.rest q
        (λ j x l at. off j x (subst (λ v. IsAt items v.items j x) (sym w.did.keeps.places) at))
        ∙ out.out i w.lot own.0 q w.here own.1 (ap (λ a. in_tops (tops_of a) q) (sym w.did.keeps.same_area) ∙ on);
    deeds = λ i t x f lot' own' here shows' at has. let w = was i lot' here in
        let own = told_own (tree w.lot.part) (sym w.did.keeps.tells ∙ ap is_some shows') in
        let at' = subst (λ v. IsAt items v.items t x) w.did.keeps.places at in
        let done = (opened (WorkedOn (deed (plain w.lot.actor)) items w.lot.places.items lot'.fates.items) (tree w.lot.part)
        (tree lot'.part) own.0 own' own.1 shows' (w.did.told (found i lot' here))).each t x f at' has in
        let same : at_and_under x.path own.0 ≡ at_and_under x.path before =
        same_at x.path before own.0
        (λ q on. out.out i w.lot own.0 q w.here own.1
        (inside tree area o level items old lots are s ready.paths i t w.lot x q w.here at' on)) in
        subst (λ m. deed d x.path x.entry f m (at_and_under x.path own')) same
        (subst (λ (e : D). deed e x.path x.entry f (at_and_under x.path own.0) (at_and_under x.path own')) (shows i w.lot w.here) done);
    named = λ i t f lot' here has. (was i lot' here).did.named t f has;
  }
