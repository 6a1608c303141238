-- One level by several actors, put together.
use Rattle.level_work.proofs.Prelude.{◌≡◌, ◌⊎◌, inl, inr, ℕ, zero, suc, ◌<◌, true, false, List, [], ◌∷◌, ◌++◌, map, length, Option, Some, None, IfSome, refl}
use Rattle.level_work.proofs.Prelude.{ap, ◌∙◌, sym, subst, arith, slice_get, is_some, false≢true, slice_get_within, slice_index_or, OnOk, Result, Ok, Err}
use Rattle.level_work.proofs.Prelude.{Files, Area, under, level_of, in_tops, tops_of, ◌↔◌, Deed, AreItems, FailsWith, OneLevel, TellsLevel, SameButLevel, IsAt}
use Rattle.level_work.proofs.Prelude.{HasWorked, SameButFirst, part_tree, part_area, Comes, stays, comes, Dealt, AreShares, AreOut, AllReady, AllTell, ShowAll}
use Rattle.level_work.proofs.Prelude.{AllBack, SameShares, Stored, AreUnder, tops_in, tops_out, get, pointwise, Item, Fate, Order, Lot}
use Rattle.std.specs.Prelude.{nat_eq}
use Rattle.level_work.specs.declared.items.Fate.TheVariants as fate
use Rattle.level_work.proofs.Leveled.{one_level_told}
use Rattle.level_work.proofs.Likes.{same_place, Like, likes, shares_over, stored_over}
use Rattle.level_work.proofs.Sharing.{Was, was, shares_told, told_own, opened}
use Rattle.level_work.proofs.Working.{same_some, some_at}

pub on_ok : {T E : Type 0} (r : Result T E) (X Y : Type 0) → (X → Y) → OnOk r X → OnOk r Y
on_ok (Ok v) X Y f x = f x
on_ok (Err e) X Y f x = tt

pub map_get : {X Y : Type 0} (f : X → Y) (xs : List X) (i : ℕ) (x : X) → slice_get xs i ≡ Some x → slice_get (map f xs) i ≡ Some (f x)
map_get f [] i x e = cc
map_get f (y ∷ xs) zero x e = ap (λ v. Some (f v)) (same_some y x e)
map_get f (y ∷ xs) (suc i) x e = map_get f xs i x e

a_part : {P : Type 0} (o : Option P) → is_some o ≡ true → (p : P) × (o ≡ Some p)
a_part None e = absurd (false≢true e)
a_part (Some p) e = (p, refl)

pub tops_same : {A P : Type 0} (area : Option P → Area) (lots lots' : List (Lot A P)) → length lots' ≡ length lots
    → ((i : ℕ) (d : Lot A P) → i < length lots → area (slice_index_or lots' i d).part ≡ area (slice_index_or lots i d).part)
    → tops_out area lots' ≡ tops_out area lots
tops_same area [] [] len h = refl
tops_same area [] (y ∷ ys) len h = absurd (omega (arith, len))
tops_same area (x ∷ xs) [] len h = absurd (omega (arith, len))
tops_same area (x ∷ xs) (y ∷ ys) len h = ap (λ a. tops_in a ++ tops_out area ys) (h 0 x (omega arith))
    ∙ ap (λ r. tops_in (area x.part) ++ r) (tops_same area xs ys (omega (arith, len)) (λ i d l. h (suc i) d (omega (arith, l))))

module _ {A P D : Type 0} (tree : P → Option Files) (area : P → Area) (part_count : Option P → ℕ) (plain : A → D) (count : A → ℕ)
    (deed : D → Deed) (items : List Item) (lots lots' : List (Lot A P)) (len : length lots' ≡ length lots)
    (did : (i : ℕ) (d : Lot A P) → i < length lots
    → HasWorked (part_tree tree) (part_area area) part_count plain count deed items (slice_index_or lots i d)
    (slice_index_or lots' i d)) where
  before_work : (i : ℕ) (lot' : Lot A P) → slice_get lots' i ≡ Some lot' → Was (part_tree tree) (part_area area) part_count plain count deed items lots i lot'
  before_work = was (part_tree tree) (part_area area) part_count plain count deed items lots lots' len did

  pub still_under : AreUnder (part_area area) lots → AreUnder (part_area area) lots'
  still_under u i lot' p at is =
      let w = before_work i lot' at in
      let q = a_part w.lot.part (sym w.did.keeps.there ∙ ap is_some is) in
      subst (λ a. a ≡ under (tops_of a)) (sym w.did.keeps.same_area) (u i w.lot q.0 w.here q.1)

  pub still_tell : (t t' : Option Files) → is_some t' ≡ is_some t → AllTell (part_tree tree) t lots → AllTell (part_tree tree) t' lots'
  still_tell t t' same u i lot' p at is =
      let w = before_work i lot' at in
      let q = a_part w.lot.part (sym w.did.keeps.there ∙ ap is_some is) in
      w.did.keeps.tells ∙ u i w.lot q.0 w.here q.1 ∙ sym same

  pub tops_kept : tops_out (part_area area) lots' ≡ tops_out (part_area area) lots
  tops_kept = tops_same (part_area area) lots lots' len (λ i d l. (did i d l).keeps.same_area)

  after_work : (i : ℕ) (lot : Lot A P) → slice_get lots i ≡ Some lot → (y : Lot A P)
      × ((slice_get lots' i ≡ Some y) × HasWorked (part_tree tree) (part_area area) part_count plain count deed items lot y)
  after_work i lot at =
      let y = some_at lots' i (omega (arith, len, slice_get_within lots i lot at)) in
      let w = before_work i y.0 y.1 in (
        y.0,
        (
          y.1,
          subst (λ (l : Lot A P). HasWorked (part_tree tree) (part_area area) part_count plain count deed items l y.0)
              (same_some w.lot lot (sym w.here ∙ at)) w.did,
        ),
      )

  pub worked_like : Like lots lots'
  worked_like i lot' at = let w = before_work i lot' at in record { it = w.lot; here = w.here; same = ap (λ v. v.items) (sym w.did.keeps.places) }

  worked_back : Like lots' lots
  worked_back i lot at = let y = after_work i lot at in record { it = y.0; here = y.1.0; same = ap (λ v. v.items) y.1.1.keeps.places }

  pub shares_worked : (o : Order) (level : ℕ) (old : List Fate) → AreShares o level items old lots → AreShares o level items old lots'
  shares_worked o level old s = shares_over o level items old lots lots' worked_like worked_back s

  -- `home` are the lots once all parts are back
  pub crew_told : (d : D) (o : Order) (level : ℕ) (old new : List Fate) (home : List (Lot A P)) (t0 t1 t3 : Option Files) → AreItems items
      → AreShares o level items old lots → AllReady (part_area area) items lots → AllTell (part_tree tree) t0 lots
      → ShowAll plain d (map (λ (l : Lot A P). l.actor) lots) →
      SameShares lots' home → ((i : ℕ) (lot : Lot A P) → slice_get home i ≡ Some lot → lot.lost ≡ false) → Stored level items home old new
      → is_some t1 ≡ is_some t0 →
      IfSome t0 (λ b. IfSome t1 (AreOut (part_tree tree) (part_area area) lots b))
      → IfSome t1 (λ r. IfSome t3 (AllBack (part_tree tree) (part_area area) lots' r))
      → IfSome t0 (λ b. IfSome t3 (OneLevel (deed d) level items new b))
  crew_told d o level old new home None t1 t3 are s ready tells show same lost st told out back = tt
  crew_told d o level old new home (Some b) None t3 are s ready tells show same lost st told out back = absurd (false≢true told)
  crew_told d o level old new home (Some b) (Some r) None are s ready tells show same lost st told out back = tt
  crew_told d o level old new home (Some b) (Some r) (Some a) are s ready tells show same lost st told out back =
      one_level_told (part_tree tree) (part_area area) (deed d) o level items old new lots' b r a are (shares_worked o level old s)
      (shares_told (part_tree tree) (part_area area) part_count plain count deed d o level items old lots lots' b r are s ready out before_work
      (λ i lot at. show i lot.actor (map_get (λ (l : Lot A P). l.actor) lots i lot at))
      (λ i lot' at. let h = same_place (λ (l : Lot A P). l.lost) home lots' (sym same.lost) i lot' at in sym h.same ∙ lost i h.it h.here)
      (λ i t x lot at is. part_told i t x lot lot.part refl at is)
      (λ q none i lot at. let y = after_work i lot at in ap (λ a. in_tops (tops_of a) q) (sym y.1.1.keeps.same_area) ∙ none i y.0 y.1.0))
      (stored_over level items lots' home old new same st)
      (λ k x f at has lev n. st.undealt k x f at has lev
      (λ dealt. n (let h = likes lots' home same dealt.share dealt.lot dealt.is_lot in
      record {
        share = dealt.share;
        place = dealt.place;
        lot = h.it;
        is_lot = h.here;
        at = subst (λ ps. slice_get ps dealt.place ≡ Some k) (sym h.same) dealt.at;
      })))
      back
    where
      part_told : (i t : ℕ) (x : Item) (lot : Lot A P) (p : Option P) → lot.part ≡ p → slice_get lots i ≡ Some lot
          → IsAt items lot.places.items t x → is_some (part_tree tree lot.part) ≡ true
      part_told i t x lot (Some p) e at is = tells i lot p at e
      part_told i t x lot None e at is = absurd (none (ap (λ o. slice_get (tops_of (part_area area o)) t) (sym e) ∙ (ready.paths i lot at).of_item t x is))
        where
          none : slice_get [] t ≡ Some x.path → ⊥
          none e = cc

  pub crew_fates : (o : Order) (level : ℕ) (old new : List Fate) (home : List (Lot A P)) → AreShares o level items old lots
      → SameShares lots' home → Stored level items home old new → TellsLevel o level items old new
  crew_fates o level old new home s same st = record {
    len = st.len;
    others = st.others;
    failed = λ k x f at has lev. by k x f at has lev ((shares_worked o level old s).all k x at lev);
  }
    where
      by : (k : ℕ) (x : Item) (f : Fate) → slice_get items k ≡ Some x → slice_get new k ≡ Some f → level_of x.path ≡ level
          → (FailsWith o items old x ⊎ Dealt lots' k) → (f ≡ fate.ParentFailed) ↔ FailsWith o items old x
      by k x f at has lev (inl fails) = (
        λ _. fails,
        λ _. st.undealt k x f at has lev (λ dealt.
            let h = likes lots' home same dealt.share dealt.lot dealt.is_lot in
            let l = worked_like dealt.share h.it h.here in
            s.can dealt.share dealt.place x
            (record {
              lot = l.it;
              is_lot = l.here;
              at = record { place = k; at = subst (λ ps. slice_get ps dealt.place ≡ Some k) (sym (l.same ∙ h.same)) dealt.at; is = at };
            })
            fails),
      )
      by k x f at has lev (inr d) =
          let w = before_work d.share d.lot d.is_lot in
          let l = worked_like d.share d.lot d.is_lot in (
            λ pf. absurd (w.did.named d.place f (sym (stored_over level items lots' home old new same st k d) ∙ has) pf),
            λ fails. absurd (s.can d.share d.place x
                (record {
                  lot = l.it;
                  is_lot = l.here;
                  at = record { place = k; at = subst (λ ps. slice_get ps d.place ≡ Some k) (sym l.same) d.at; is = at };
                }) fails),
          )

  pub all_fates : (home : List (Lot A P)) → SameShares lots' home
      → ((i : ℕ) (lot : Lot A P) → slice_get home i ≡ Some lot → lot.lost ≡ false) → (i : ℕ) (lot : Lot A P) → slice_get home i ≡ Some lot
      → length lot.fates.items ≡ length lot.places.items
  all_fates home same lost i lot at =
      let a = same_place (λ (l : Lot A P). l.fates) lots' home same.fates i lot at in
      let b = same_place (λ (l : Lot A P). l.places) lots' home same.places i lot at in
      let c = same_place (λ (l : Lot A P). l.lost) lots' home same.lost i lot at in
      let w = before_work i a.it a.here in
      ap (λ v. length v.items) (sym a.same)
      ∙ w.did.all (ap (λ (l : Lot A P). l.lost) (same_some a.it c.it (sym a.here ∙ c.here)) ∙ c.same ∙ lost i lot at)
      ∙ ap (λ v. length v.items)
      (sym w.did.keeps.places ∙ ap (λ (l : Lot A P). l.places) (same_some a.it b.it (sym a.here ∙ b.here)) ∙ b.same)

  -- every path but those of the level's items is as before, also where a share found no memory
  pub crew_rest : (o : Order) (level : ℕ) (old : List Fate) (t0 t1 t3 : Option Files) → AreShares o level items old lots → is_some t1 ≡ is_some t0 →
      IfSome t0 (λ b. IfSome t1 (AreOut (part_tree tree) (part_area area) lots b))
      → IfSome t1 (λ r. IfSome t3 (AllBack (part_tree tree) (part_area area) lots' r))
      → IfSome t0 (λ b. IfSome t3 (SameButLevel level items b))
  crew_rest o level old None t1 t3 s told out back = tt
  crew_rest o level old (Some b) None t3 s told out back = absurd (false≢true told)
  crew_rest o level old (Some b) (Some r) None s told out back = tt
  crew_rest o level old (Some b) (Some r) (Some a) s told out back = λ q off. by q off (back q)
    where
      by : (q : List ℕ) → ((k : ℕ) (x : Item) → slice_get items k ≡ Some x → level_of x.path ≡ level → pointwise nat_eq q x.path ≡ false)
          → Comes (part_tree tree) (part_area area) lots' r a q → get a q ≡ get b q
      by q off (stays none e) = e
          ∙ out.left q (λ i lot at. let y = after_work i lot at in
          ap (λ a. in_tops (tops_of a) q) (sym y.1.1.keeps.same_area) ∙ none i y.0 y.1.0)
      by q off (comes i lot' own' here shows on e) =
          let w = before_work i lot' here in
          let own = told_own (part_tree tree) (part_area area) part_count plain count deed (part_tree tree w.lot.part)
          (sym w.did.keeps.tells ∙ ap is_some shows) in
          e ∙ opened (part_tree tree) (part_area area) part_count plain count deed
          (SameButFirst (length w.lot.places.items) items w.lot.places.items) (part_tree tree w.lot.part)
          (part_tree tree lot'.part) own.0 own' own.1 shows w.did.rest q
          (λ j x l at. off at.place x at.is (s.on_level i j x (record { lot = w.lot; is_lot = w.here; at = at })))
          ∙ out.out i w.lot own.0 q w.here own.1 (ap (λ a. in_tops (tops_of a) q) (sym w.did.keeps.same_area) ∙ on)

-- nobody worked
pub idle_rest : {A P : Type 0} (tree : Option P → Option Files) (area : Option P → Area) (level : ℕ) (items : List Item)
    (lots : List (Lot A P)) (t0 t1 t3 : Option Files) → is_some t1 ≡ is_some t0 →
    IfSome t0 (λ b. IfSome t1 (AreOut tree area lots b)) → IfSome t1 (λ r. IfSome t3 (AllBack tree area lots r))
    → IfSome t0 (λ b. IfSome t3 (SameButLevel level items b))
idle_rest tree area level items lots None t1 t3 told out back = tt
idle_rest tree area level items lots (Some b) None t3 told out back = absurd (false≢true told)
idle_rest tree area level items lots (Some b) (Some r) None told out back = tt
idle_rest tree area level items lots (Some b) (Some r) (Some a) told out back = λ q off. by q off (back q)
  where
    by : (q : List ℕ) → ((k : ℕ) (x : Item) → slice_get items k ≡ Some x → level_of x.path ≡ level → pointwise nat_eq q x.path ≡ false)
        → Comes tree area lots r a q → get a q ≡ get b q
    by q off (stays none e) = e ∙ out.left q none
    by q off (comes i lot own here shows on e) = e ∙ out.out i lot own q here shows on
