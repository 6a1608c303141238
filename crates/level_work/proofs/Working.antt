-- The work on a share, item by item.
use Rattle.level_work.proofs.Prelude.{◌≡◌, ◌≢◌, ◌⊎◌, inl, inr, ℕ, zero, suc, ◌+◌, ◌<◌, ◌≤◌, true, false, cond, List, [], ◌∷◌, ◌++◌, length, Option, Some, None}
use Rattle.level_work.proofs.Prelude.{IfSome, refl, ap, ◌∙◌, sym, subst, arith, eqb, nat_lt, nat_tests, length-append, is_some, slice_get, false≢true, slice_get_within, sum_by-append}
use Rattle.level_work.proofs.Prelude.{count_by, is_within, Files, Area, SameBut, Deed, IsDone, at_and_under, is_failed, IsAt, AreApart, SameButFirst, WorkedOn}
use Rattle.level_work.proofs.Prelude.{Blamed, Ready, Keeps, Stepped, Stopped, Upto, HasWorked, Item, Fate, Lot}
use Rattle.std.proofs.Common.{Ok}
use Rattle.level_work.specs.declared.items.Fate.TheVariants as fate
use Rattle.level_work.proofs.Frames.{one_elsewhere, same_at, apart_is_other}

pub other_number : (j n : ℕ) → eqb j n ≡ false → j ≡ n → ⊥
other_number j n e s = absurd (false≢true (grind (arith, nat_tests)))

pub not_less : (j n : ℕ) → nat_lt j n ≡ false → n ≤ j
not_less j n e = grind (arith, nat_tests)

unfoldable pub first : {Y : Type 0} → Y → List Y → Y
first d [] = d
first d (y ∷ ys) = y

unfoldable pub others : {Y : Type 0} → List Y → List Y
others [] = []
others (y ∷ ys) = ys

held : {X : Type 0} → X → Option X → X
held d None = d
held d (Some x) = x

pub same_some : {X : Type 0} (x y : X) → Some x ≡ Some y → x ≡ y
unfolding held
same_some x y e = ap (held x) e

pub get_more : {X : Type 0} (xs : List X) (y : X) (j : ℕ) (f : X) → slice_get (xs ++ y ∷ []) j ≡ Some f → (slice_get xs j ≡ Some f)
    ⊎ ((j ≡ length xs) × (y ≡ f))
get_more [] y zero f e = inr (refl, same_some y f e)
get_more [] y (suc j) f e = cc
get_more (x ∷ xs) y zero f e = inl e
get_more (x ∷ xs) y (suc j) f e = next (get_more xs y j f e)
  where
    next : (slice_get xs j ≡ Some f) ⊎ ((j ≡ length xs) × (y ≡ f)) → (slice_get xs j ≡ Some f) ⊎ ((suc j ≡ suc (length xs)) × (y ≡ f))
    next (inl h) = inl h
    next (inr h) = inr (ap suc h.0, h.1)

pub some_at : {X : Type 0} (xs : List X) (k : ℕ) → k < length xs → (x : X) × (slice_get xs k ≡ Some x)
some_at [] k l = absurd (omega arith)
some_at (x ∷ xs) zero l = (x, refl)
some_at (x ∷ xs) (suc k) l = some_at xs k (omega arith)

pub item_at : (items : List Item) (places : List ℕ) (j : ℕ) → j < length places
    → ((j k : ℕ) → slice_get places j ≡ Some k → k < length items) → (x : Item) × IsAt items places j x
item_at items places j l inside =
    let p = some_at places j l in
    let i = some_at items p.0 (inside j p.0 p.1) in
    (i.0, record { place = p.0; at = p.1; is = i.1 })

same_item : (items : List Item) (places : List ℕ) (j : ℕ) (x y : Item) → IsAt items places j x → IsAt items places j y → x ≡ y
same_item items places j x y a b =
    let same : a.place ≡ b.place = same_some a.place b.place (sym a.at ∙ b.at) in
    same_some x y (sym a.is ∙ ap (slice_get items) same ∙ b.is)

-- one item more, over a map that is told
worked_more : (deed : Deed) (items : List Item) (places : List ℕ) (fates : List Fate) (f : Fate) (x : Item) (a b c : Files)
    → AreApart items places → IsAt items places (length fates) x →
    WorkedOn deed items places fates a b → IsDone deed x.path x.entry (Ok f) b c → WorkedOn deed items places (fates ++ f ∷ []) a c
worked_more deed items places fates f x a b c apart here w d = record {
  others = λ q off. d.others q (off (length fates) x (omega (arith, length-append fates (f ∷ []))) here)
      ∙ w.others q (λ j y l is. off j y (omega (arith, l, length-append fates (f ∷ []))) is);
  each = λ j y g is at. step j y g is (get_more fates f j g at);
}
  where
    step : (j : ℕ) (y : Item) (g : Fate) → IsAt items places j y → (slice_get fates j ≡ Some g) ⊎ ((j ≡ length fates) × (f ≡ g))
        → deed y.path y.entry g (at_and_under y.path a) (at_and_under y.path c)
    step j y g is (inl old) =
        let l : j < length fates = slice_get_within fates j g old in
        let off : is_within x.path y.path ≡ false = apart (length fates) j x y (λ e. omega (arith, e, l)) here is in
        subst (deed y.path y.entry g (at_and_under y.path a)) (sym (one_elsewhere y.path x.path b c off d.others)) (w.each j y g is old)
    step j y g is (inr new) =
        let same : x ≡ y = same_item items places (length fates) x y here (subst (λ k. IsAt items places k y) new.0 is) in
        let under : at_and_under x.path b ≡ at_and_under x.path a =
        same_at x.path a b (λ q on.
        w.others q (λ k z l at. apart_is_other q x.path z.path (apart k (length fates) z x (λ e. omega (arith, e, l)) at here) on)) in
        let now : deed x.path x.entry f (at_and_under x.path a) (at_and_under x.path c) =
        subst (λ m. deed x.path x.entry f m (at_and_under x.path c)) under d.answers in
        subst (λ g. deed y.path y.entry g (at_and_under y.path a) (at_and_under y.path c)) new.1
        (subst (λ (y : Item). deed y.path y.entry f (at_and_under y.path a) (at_and_under y.path c)) same now)

-- where the map may not be told
pub both_told : (R S W : Files → Files → Type 0) (t0 t1 t2 : Option Files) → is_some t1 ≡ is_some t0 → ((a b c : Files) → R a b → S b c → W a c) →
    IfSome t0 (λ a. IfSome t1 (R a)) → IfSome t1 (λ b. IfSome t2 (S b)) → IfSome t0 (λ a. IfSome t2 (W a))
both_told R S W None t1 t2 e f r s = tt
both_told R S W (Some a) None t2 e f r s = absurd (false≢true e)
both_told R S W (Some a) (Some b) None e f r s = tt
both_told R S W (Some a) (Some b) (Some c) e f r s = f a b c r s

pub same_told : (R : Files → Files → Type 0) (t : Option Files) → ((a : Files) → R a a) → IfSome t (λ a. IfSome t (R a))
same_told R None f = tt
same_told R (Some a) f = f a

pub count_more : (xs : List Fate) (f : Fate) → count_by is_failed (xs ++ f ∷ []) ≡ count_by is_failed xs + cond (is_failed f) 1 0
count_more xs f = sum_by-append (λ x. cond (is_failed x) 1 0) xs (f ∷ []) ∙ ap (λ k. count_by is_failed xs + k) (none_plus (cond (is_failed f) 1 0))
  where
    none_plus : (k : ℕ) → 0 + k ≡ k
    none_plus k = omega arith

blamed_more : (m n a p b q c r : ℕ) → Blamed m a p b q → Blamed n b q c r → Blamed (m + n) a p c r
blamed_more m n a p b q c r x y =
    record {
      part = omega (arith, x.part, y.part);
      actor = omega (arith, x.actor, y.actor);
      some = λ l k. omega (arith, x.some (omega (arith, y.part, l)) (omega (arith, y.actor, k)), y.some l k);
    }

module _ {A P D : Type 0} (tree : Option P → Option Files) (area : Option P → Area) (part_count : Option P → ℕ) (plain : A → D)
    (count : A → ℕ) (deed : D → Deed) where
  keeps_none : (lot : Lot A P) → Keeps tree area part_count plain count deed lot lot
  keeps_none lot = record { places = refl; same_area = refl; same_plain = refl; tells = refl; there = refl }

  keeps_on : (lot mid lot' : Lot A P) → Keeps tree area part_count plain count deed lot mid
      → Keeps tree area part_count plain count deed mid lot' → Keeps tree area part_count plain count deed lot lot'
  keeps_on lot mid lot' a b =
      record {
        places = b.places ∙ a.places;
        same_area = b.same_area ∙ a.same_area;
        same_plain = b.same_plain ∙ a.same_plain;
        tells = b.tells ∙ a.tells;
        there = b.there ∙ a.there;
      }

  pub begun : (items : List Item) (lot : Lot A P) → Ready area items lot → Upto tree area part_count plain count deed 0 items lot lot
  begun items lot r = record {
    keeps = keeps_none lot;
    lost = r.found;
    so_many = ap length r.fresh;
    named = λ j f e. absurd (none j f (subst (λ fs. slice_get fs j ≡ Some f) r.fresh e));
    blamed = subst (λ fs. Blamed (count_by is_failed fs) (part_count lot.part) (count lot.actor) (part_count lot.part) (count lot.actor))
        (sym r.fresh) (record { part = omega arith; actor = omega arith; some = λ l k. omega arith });
    told = same_told (WorkedOn (deed (plain lot.actor)) items lot.places.items lot.fates.items) (tree lot.part)
        (λ a. record { others = λ q off. refl; each = λ j x f is e. absurd (none j f (subst (λ fs. slice_get fs j ≡ Some f) r.fresh e)) });
  }
    where
      none : (j : ℕ) (f : Fate) → slice_get [] j ≡ Some f → ⊥
      none j f e = cc

  pub stepped : (items : List Item) (n : ℕ) (lot mid lot' : Lot A P) → Ready area items lot → n < length lot.places.items
      → Upto tree area part_count plain count deed n items lot mid → Stepped tree area part_count plain count deed items n mid lot' →
      Upto tree area part_count plain count deed (n + 1) items lot lot'
  stepped items n lot mid lot' r l u s = record {
    keeps = keeps_on lot mid lot' u.keeps s.keeps;
    lost = s.lost ∙ u.lost;
    so_many = ap length s.fates ∙ length-append mid.fates.items (s.now ∷ []) ∙ ap (λ k. k + 1) u.so_many;
    named = λ j f e. named j f (get_more mid.fates.items s.now j f (subst (λ fs. slice_get fs j ≡ Some f) s.fates e));
    blamed = subst (λ k. Blamed k (part_count lot.part) (count lot.actor) (part_count lot'.part) (count lot'.actor))
        (sym (ap (count_by is_failed) s.fates ∙ count_more mid.fates.items s.now)) (blamed_more _ _ _ _ _ _ _ _ u.blamed s.blamed);
    told = both_told (WorkedOn acts items places mid.fates.items) (λ b. IsDone acts item.0.path item.0.entry (Ok s.now) b)
        (WorkedOn acts items places lot'.fates.items) (tree lot.part) (tree mid.part) (tree lot'.part) u.keeps.tells
        (λ a b c w d. subst (λ fs. WorkedOn acts items places fs a c) (sym s.fates)
        (worked_more acts items places mid.fates.items s.now item.0 a b c r.apart
        (subst (λ k. IsAt items places k item.0) (sym u.so_many) item.1) w d))
        u.told
        (subst (λ d. IfSome (tree mid.part) (λ b. IfSome (tree lot'.part) (IsDone (deed d) item.0.path item.0.entry (Ok s.now) b)))
        u.keeps.same_plain (s.told item.0 (subst (λ p. IsAt items p n item.0) (sym same_places) item.1)));
  }
    where
      places : List ℕ
      places = lot.places.items

      same_places : mid.places.items ≡ lot.places.items
      same_places = ap (λ v. v.items) u.keeps.places

      item : (x : Item) × IsAt items lot.places.items n x
      item = item_at items lot.places.items n l r.inside

      acts : Deed
      acts = deed (plain lot.actor)

      named : (j : ℕ) (f : Fate) → (slice_get mid.fates.items j ≡ Some f) ⊎ ((j ≡ length mid.fates.items) × (s.now ≡ f)) → f ≢ fate.ParentFailed
      named j f (inl old) = u.named j f old
      named j f (inr new) = subst (λ g. g ≢ fate.ParentFailed) new.1 s.named

  pub finished : (items : List Item) (n : ℕ) (lot lot' : Lot A P) → n ≡ length lot.places.items
      → Upto tree area part_count plain count deed n items lot lot' → HasWorked tree area part_count plain count deed items lot lot'
  finished items n lot lot' e u = record {
    keeps = u.keeps;
    blamed = u.blamed;
    named = u.named;
    all = λ _. u.so_many ∙ e;
    told = λ _. u.told;
    rest = both_told (λ a b. a ≡ b) (WorkedOn (deed (plain lot.actor)) items lot.places.items lot'.fates.items)
        (SameButFirst (length lot.places.items) items lot.places.items) (tree lot.part) (tree lot.part) (tree lot'.part) refl
        (λ a b c s w. subst (λ k. SameButFirst k items lot.places.items a c) (u.so_many ∙ e)
        (subst (λ x. SameButFirst (length lot'.fates.items) items lot.places.items x c) (sym s) w.others))
        (same_told (λ a b. a ≡ b) (tree lot.part) (λ a. refl)) u.told;
  }

  pub lost_at : (items : List Item) (n : ℕ) (lot mid lot' : Lot A P) → Ready area items lot → n < length lot.places.items
      → Upto tree area part_count plain count deed n items lot mid → Stopped tree area part_count plain count deed items n mid lot' →
      HasWorked tree area part_count plain count deed items lot (record lot' { lost = true })
  lost_at items n lot mid lot' r l u s = record {
    keeps = let k = keeps_on lot mid lot' u.keeps s.keeps in
        record { places = k.places; same_area = k.same_area; same_plain = k.same_plain; tells = k.tells; there = k.there };
    blamed = subst (λ k. Blamed k (part_count lot.part) (count lot.actor) (part_count lot'.part) (count lot'.actor))
        (sym (ap (count_by is_failed) s.fates))
        (subst (λ k. Blamed k (part_count lot.part) (count lot.actor) (part_count lot'.part) (count lot'.actor))
        (plus_none (count_by is_failed mid.fates.items)) (blamed_more _ _ _ _ _ _ _ _ u.blamed s.blamed));
    named = λ j f e. u.named j f (subst (λ fs. slice_get fs j ≡ Some f) s.fates e);
    all = λ e. absurd (false≢true (sym e));
    told = λ e. absurd (false≢true (sym e));
    rest = both_told (WorkedOn acts items places mid.fates.items) (SameBut item.0.path) (SameButFirst (length places) items places)
        (tree lot.part) (tree mid.part) (tree lot'.part) u.keeps.tells
        (λ a b c w o q off. o q (off n item.0 l item.1) ∙ w.others q (λ j y k is. off j y (omega (arith, k, u.so_many, l)) is))
        u.told
        (s.rest item.0 (subst (λ p. IsAt items p n item.0) (sym (ap (λ v. v.items) u.keeps.places)) item.1));
  }
    where
      places : List ℕ
      places = lot.places.items

      item : (x : Item) × IsAt items lot.places.items n x
      item = item_at items lot.places.items n l r.inside

      acts : Deed
      acts = deed (plain lot.actor)

      plus_none : (k : ℕ) → k + 0 ≡ k
      plus_none k = omega arith
