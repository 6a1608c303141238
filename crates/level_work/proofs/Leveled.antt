-- One level by several actors, from what each share did.
use Rattle.level_work.proofs.Prelude.{◌≡◌, ◌≢◌, ◌⊎◌, inl, inr, ℕ, true, false, List, [], Option, Some, refl, ap, ◌∙◌, sym, subst, arith, nat_eq, eqb, slice_get}
use Rattle.level_work.proofs.Prelude.{false≢true, slice_get_within, get_or_from_slice_get, list_any_at, get, pointwise, bytes_decides, is_within}
use Rattle.level_work.proofs.Prelude.{level_of, Files, Area, in_tops, tops_of, Deed, at_and_under, AreItems, FailsWith, OneLevel, IsAt, ArePaths, Dealt}
use Rattle.level_work.proofs.Prelude.{AreShares, InNone, Comes, stays, comes, AllBack, Item, Fate, Order, Lot, exact_unsigned_eq, deeper, some_bytes, a_top}
use Rattle.level_work.specs.declared.items.Fate.TheVariants as fate
use Rattle.level_work.proofs.Frames.{same_at}
use Rattle.level_work.proofs.Working.{same_some, item_at, other_number}

module _ {A P : Type 0} (tree : Option P → Option Files) (area : Option P → Area) where
  -- a share that is leased and was worked on, over the map before the level
  pub record HasOwn (lot : Lot A P) : Type 0 where
    pub own : Files
    pub tells : tree lot.part ≡ Some own

  pub record SharesTold (deed : Deed) (items : List Item) (lots : List (Lot A P)) (before rest : Files) : Type 0 where
    pub paths : (i : ℕ) (lot : Lot A P) → slice_get lots i ≡ Some lot → ArePaths items lot.places.items (tops_of (area lot.part))
    pub owns : (i t : ℕ) (x : Item) (lot : Lot A P) → slice_get lots i ≡ Some lot → IsAt items lot.places.items t x → HasOwn lot
    pub left : (q : List ℕ) → InNone area lots q → get rest q ≡ get before q
    pub kept : (i : ℕ) (lot : Lot A P) (own : Files) (q : List ℕ) → slice_get lots i ≡ Some lot → tree lot.part ≡ Some own
        → in_tops (tops_of (area lot.part)) q ≡ true
        → ((t : ℕ) (x : Item) → IsAt items lot.places.items t x → pointwise nat_eq q x.path ≡ false) → get own q ≡ get before q
    pub deeds : (i t : ℕ) (x : Item) (f : Fate) (lot : Lot A P) (own : Files) → slice_get lots i ≡ Some lot → tree lot.part ≡ Some own
        → IsAt items lot.places.items t x → slice_get lot.fates.items t ≡ Some f
        → deed x.path x.entry f (at_and_under x.path before) (at_and_under x.path own)
    pub named : (i t : ℕ) (f : Fate) (lot : Lot A P) → slice_get lots i ≡ Some lot → slice_get lot.fates.items t ≡ Some f → f ≢ fate.ParentFailed

  module _ (o : Order) (level : ℕ) (items : List Item) (old : List Fate) (lots : List (Lot A P)) (are : AreItems items)
      (s : AreShares o level items old lots)
      (paths : (i : ℕ) (lot : Lot A P) → slice_get lots i ≡ Some lot → ArePaths items lot.places.items (tops_of (area lot.part))) where
    -- the item of a share that a path of its part is within
    record Owner (lot : Lot A P) (q : List ℕ) : Type 0 where
      place : ℕ
      item : Item
      at : IsAt items lot.places.items place item
      within : is_within q item.path ≡ true

    owner : (i : ℕ) (lot : Lot A P) (q : List ℕ) → slice_get lots i ≡ Some lot → in_tops (tops_of (area lot.part)) q ≡ true → Owner lot q
    owner i lot q here on =
        let t = a_top (tops_of (area lot.part)) q on in
        let p : ArePaths items lot.places.items (tops_of (area lot.part)) = paths i lot here in
        let x : (x : Item) × IsAt items lot.places.items t.place x =
        item_at items lot.places.items t.place (omega (arith, slice_get_within (tops_of (area lot.part)) t.place t.top t.at, p.len))
        (λ j k e. s.inside i j k lot here e) in
        record { place = t.place; item = x.0; at = x.1; within = ap (is_within q) (same_some x.0.path t.top (sym (p.of_item t.place x.0 x.1) ∙ t.at)) ∙ t.on }

    pub inside : (i t : ℕ) (lot : Lot A P) (x : Item) (q : List ℕ) → slice_get lots i ≡ Some lot → IsAt items lot.places.items t x
        → is_within q x.path ≡ true → in_tops (tops_of (area lot.part)) q ≡ true
    inside i t lot x q here at on =
        let h = (paths i lot here).of_item t x at in
        list_any_at (is_within q) (tops_of (area lot.part)) t [] (slice_get_within (tops_of (area lot.part)) t x.path h)
        (ap (is_within q) (get_or_from_slice_get (tops_of (area lot.part)) t x.path [] h) ∙ on)

    -- a path at or under an item comes from the part of that item's share
    from_own : (i t : ℕ) (lot : Lot A P) (x : Item) (own rest after : Files) (q : List ℕ) → slice_get lots i ≡ Some lot
        → IsAt items lot.places.items t x → tree lot.part ≡ Some own → is_within q x.path ≡ true → Comes tree area lots rest after q
        → get after q ≡ get own q
    from_own i t lot x own rest after q here at tells on (stays none e) = absurd (false≢true (sym (none i lot here) ∙ inside i t lot x q here at on))
    from_own i t lot x own rest after q here at tells on (comes j lot' own' here' tells' in' e) = e
        ∙ elim (eqb j i) as (λ b. eqb j i ≡ b → get own' q ≡ get own q) [
          | true ↦ λ is. ap (λ (m : Files). get m q)
              (same_some own' own (sym tells'
              ∙ ap (λ (l : Lot A P). tree l.part) (same_some lot' lot (sym here' ∙ ap (slice_get lots) (exact_unsigned_eq j i is) ∙ here)) ∙ tells))
          | false ↦ λ off. let y = owner j lot' q here' in' in
              absurd (false≢true (sym (s.apart i j t y.place x y.item (λ e. other_number j i off (sym e.0))
              (record { lot = lot; is_lot = here; at = at }) (record { lot = lot'; is_lot = here'; at = y.at }) q on) ∙ y.within))
        ] refl

    -- an item whose parent failed is in no part
    not_dealt : (k : ℕ) (x : Item) → slice_get items k ≡ Some x → FailsWith o items old x → Dealt lots k → ⊥
    not_dealt k x here fails d = s.can d.share d.place x (record { lot = d.lot; is_lot = d.is_lot; at = record { place = k; at = d.at; is = here } }) fails

    not_within : (k : ℕ) (x : Item) (i : ℕ) (lot : Lot A P) → slice_get items k ≡ Some x → level_of x.path ≡ level → FailsWith o items old x
        → slice_get lots i ≡ Some lot → in_tops (tops_of (area lot.part)) x.path ≡ true → ⊥
    not_within k x i lot here lev fails his on = let y = owner i lot x.path his on in
        elim (pointwise nat_eq x.path y.item.path) as (λ b. pointwise nat_eq x.path y.item.path ≡ b → ⊥) [
          | true ↦ λ is. let same : k ≡ y.at.place = are.distinct k y.at.place x y.item here y.at.is ((bytes_decides x.path y.item.path).0 is) in
              not_dealt k x here fails
              (record {
                share = i;
                place = y.place;
                lot = lot;
                is_lot = his;
                at = subst (λ n. slice_get lot.places.items y.place ≡ Some n) (sym same) y.at.at;
              })
          | false ↦ λ off. let d = deeper x.path y.item.path (some_bytes y.item.path (are.valid y.at.place y.item y.at.is)) y.within off in
              absurd (omega (arith, d, lev, s.on_level i y.place y.item (record { lot = lot; is_lot = his; at = y.at })))
        ] refl

  pub one_level_told : (deed : Deed) (o : Order) (level : ℕ) (items : List Item) (old new : List Fate) (lots : List (Lot A P))
      (before rest after : Files) → AreItems items → AreShares o level items old lots → SharesTold deed items lots before rest
      → ((k : ℕ) (d : Dealt lots k) → slice_get new k ≡ slice_get d.lot.fates.items d.place)
      → ((k : ℕ) (x : Item) (f : Fate) → slice_get items k ≡ Some x → slice_get new k ≡ Some f → level_of x.path ≡ level
      → (Dealt lots k → ⊥) → f ≡ fate.ParentFailed) → AllBack tree area lots rest after → OneLevel deed level items new before after
  one_level_told deed o level items old new lots before rest after are s told dealt undealt back = record {
    others = λ q off. others q off (back q);
    touched = λ k x f at has lev named. touched k x f at has lev named (s.all k x at lev);
    untouched = λ k x f at has lev pf. untouched k x f at has lev pf (s.all k x at lev) (back x.path);
  }
    where
      others : (q : List ℕ) → ((k : ℕ) (x : Item) → slice_get items k ≡ Some x → level_of x.path ≡ level
          → pointwise nat_eq q x.path ≡ false) → Comes tree area lots rest after q → get after q ≡ get before q
      others q off (stays none e) = e ∙ told.left q none
      others q off (comes i lot own here tells on e) = e
          ∙ told.kept i lot own q here tells on
          (λ t x at. off at.place x at.is (s.on_level i t x (record { lot = lot; is_lot = here; at = at })))

      touched : (k : ℕ) (x : Item) (f : Fate) → slice_get items k ≡ Some x → slice_get new k ≡ Some f → level_of x.path ≡ level
          → f ≢ fate.ParentFailed → (FailsWith o items old x ⊎ Dealt lots k)
          → deed x.path x.entry f (at_and_under x.path before) (at_and_under x.path after)
      touched k x f at has lev named (inl fails) = absurd (named (undealt k x f at has lev (not_dealt o level items old lots are s told.paths k x at fails)))
      touched k x f at has lev named (inr d) =
          let is : IsAt items d.lot.places.items d.place x = record { place = k; at = d.at; is = at } in
          let mine = told.owns d.share d.place x d.lot d.is_lot is in
          let same : at_and_under x.path after ≡ at_and_under x.path mine.own =
          same_at x.path mine.own after
          (λ q on. from_own o level items old lots are s told.paths d.share d.place d.lot x mine.own rest after q d.is_lot is mine.tells
          on (back q)) in
          subst (deed x.path x.entry f (at_and_under x.path before)) (sym same)
          (told.deeds d.share d.place x f d.lot mine.own d.is_lot mine.tells is (sym (dealt k d) ∙ has))

      untouched : (k : ℕ) (x : Item) (f : Fate) → slice_get items k ≡ Some x → slice_get new k ≡ Some f → level_of x.path ≡ level
          → f ≡ fate.ParentFailed → (FailsWith o items old x ⊎ Dealt lots k) → Comes tree area lots rest after x.path
          → get after x.path ≡ get before x.path
      untouched k x f at has lev pf (inl fails) (stays none e) = e ∙ told.left x.path none
      untouched k x f at has lev pf (inl fails) (comes i lot own here tells on e) =
          absurd (not_within o level items old lots are s told.paths k x i lot at lev fails here on)
      untouched k x f at has lev pf (inr d) c = absurd (told.named d.share d.place f d.lot d.is_lot (sym (dealt k d) ∙ has) pf)
