-- How the items of a level are dealt.
use Rattle.level_work.proofs.Prelude.{◌≡◌, ◌⊎◌, inl, inr, ⊎_elim, ℕ, zero, suc, ◌+◌, ◌<◌, ◌≤◌, Bool, true, false, List, [], ◌∷◌, ◌++◌, length, map, Some, None}
use Rattle.level_work.proofs.Prelude.{refl, ap, ◌∙◌, sym, subst, arith, eqb, nat_eq, nat_lt, slice_get, cond, take, ◌%◌, slice_set, false≢true, nat_tests}
use Rattle.level_work.proofs.Prelude.{length_push, sum_by-append, slice_get_within, count_by, is_within, TopsAreNested, level_of, parent_of, refusal}
use Rattle.level_work.proofs.Prelude.{under_deeper, same_or_under, some_bytes, is_on, place_of, AreItems, FailsWith, HasFailedParent, AllBelow, level_at, InLot}
use Rattle.level_work.proofs.Prelude.{Dealt, AreShares, SameSeats, IsAmong, Knows, AreOnLevel, AreByLevel, AreFailed, has_path, In, DealtTo, DealsOne, left_out}
use Rattle.level_work.proofs.Prelude.{dealt_to, AreInTurn, Item, Fate, Order, Lot, slice_end, exact_unsigned_eq, longer}
use Rattle.level_work.specs.declared.items.Order.TheVariants as order
use Rattle.level_work.proofs.Crewed.{map_get}
use Rattle.level_work.proofs.Giving.{get_set_same, get_set_other, get_front, length_set, map_set, split_take_suc}
use Rattle.level_work.proofs.Leases.{Written, written_here, written_there, written}
use Rattle.level_work.proofs.Working.{same_some, get_more, not_less, other_number}

pub failed_parent : (items : List Item) (fates : List Fate) (paths : List (List ℕ)) (x : Item) → AreFailed items fates paths
    → has_path paths (parent_of x.path) ≡ true → HasFailedParent items fates x
failed_parent items fates paths x w e = let f = w.sound (parent_of x.path) e in
    record { place = f.place; item = f.item; fate_of = f.fate_of; at = f.at; has = f.has; is_parent = f.is_path; not_done = f.not_done }

pub no_failed_parent : (items : List Item) (fates : List Fate) (paths : List (List ℕ)) (x : Item) → AreFailed items fates paths
    → has_path paths (parent_of x.path) ≡ false → HasFailedParent items fates x → ⊥
no_failed_parent items fates paths x w e h =
    false≢true (sym e ∙ ap (has_path paths) (sym h.is_parent) ∙ w.complete h.place h.item h.fate_of h.at h.has h.not_done)

-- two paths of one level have nothing at and under both but where they are the same
pub one_over : TopsAreNested → (x y q : List ℕ) → refusal x ≡ None → refusal y ≡ None → level_of x ≡ level_of y
    → is_within q x ≡ true → is_within q y ≡ true → x ≡ y
one_over nested x y q fx fy lev on on' = ⊎_elim (same x y fy lev) (λ w. sym (same y x fx (sym lev) w)) (nested q x y fx fy on on')
  where
    same : (a b : List ℕ) → refusal b ≡ None → level_of a ≡ level_of b → is_within a b ≡ true → a ≡ b
    same a b f l w = ⊎_elim (λ e. e) (λ u. absurd (let d = under_deeper a b (some_bytes b f) u in omega (arith, d, l))) (same_or_under a b w)

pub widen : (n : ℕ) (places : List ℕ) (k : ℕ) → IsAmong n places k → IsAmong (n + 1) places k
widen n places k a = record { place = a.place; at = a.at; early = omega (arith, a.early) }

module _ {A P : Type 0} where
  -- no share has a place
  pub dealt_none : (o : Order) (items : List Item) (fates : List Fate) (places : List ℕ) (lots : List (Lot A P))
      → ((i : ℕ) (lot : Lot A P) → slice_get lots i ≡ Some lot → lot.places.items ≡ []) → DealtTo 0 o items fates places lots
  dealt_none o items fates places lots empty = record {
    from = λ i j k e. absurd (none i j k e);
    can = λ i j k x e at fails. none i j k e;
    once = λ i j s t k e f. absurd (none i j k e);
    all = λ t k x l at is. absurd (omega (arith, l));
  }
    where
      nothing : (xs : List ℕ) (j k : ℕ) → xs ≡ [] → slice_get xs j ≡ Some k → ⊥
      nothing [] j k e s = cc
      nothing (x ∷ xs) j k e s = cc

      none : (i j k : ℕ) → In lots i j k → ⊥
      none i j k e = nothing e.lot.places.items j k (empty i e.lot e.is_lot) e.at

  -- what is in the shares once one of them has a place more
  data Taken (lots : List (Lot A P)) (i k : ℕ) (lot : Lot A P) (j t n : ℕ) : Type 0 where
    was_in : In lots j t n → Taken lots i k lot j t n
    put_in : j ≡ i → t ≡ length lot.places.items → n ≡ k → Taken lots i k lot j t n

  module _ (o : Order) (items : List Item) (fates : List Fate) (places : List ℕ) (lots : List (Lot A P)) (n i k : ℕ) (lot new : Lot A P)
      (at : slice_get lots i ≡ Some lot) (more : new.places.items ≡ lot.places.items ++ k ∷ [])
      (next : slice_get places n ≡ Some k) (unique : (a b c : ℕ) → slice_get places a ≡ Some c → slice_get places b ≡ Some c → a ≡ b)
      (d : DealtTo n o items fates places lots) where
    inside : i < length lots
    inside = slice_get_within lots i lot at

    taken : (j t m : ℕ) → In (slice_set lots i new) j t m → Taken lots i k lot j t m
    taken j t m e = by (written lots i new j e.lot inside e.is_lot)
      where
        by : Written lots i new j e.lot → Taken lots i k lot j t m
        by (written_there off w) = was_in (record { lot = e.lot; is_lot = w; at = e.at })
        by (written_here s w) = last
            (get_more lot.places.items k t m
            (ap (λ ps. slice_get ps t) (sym more) ∙ ap (λ (l : Lot A P). slice_get l.places.items t) w ∙ e.at))
          where
            last : (slice_get lot.places.items t ≡ Some m) ⊎ ((t ≡ length lot.places.items) × (k ≡ m)) → Taken lots i k lot j t m
            last (inl h) = was_in (record { lot = lot; is_lot = ap (slice_get lots) s ∙ at; at = h })
            last (inr h) = put_in s h.0 (sym h.1)

    new_here : slice_get (slice_set lots i new) i ≡ Some new
    new_here = get_set_same lots i new inside

    still : (m : ℕ) → Dealt lots m → Dealt (slice_set lots i new) m
    still m e = elim (eqb e.share i) as (λ b. eqb e.share i ≡ b → Dealt (slice_set lots i new) m) [
      | true ↦ λ is. let s = exact_unsigned_eq e.share i is in let same : e.lot ≡ lot = same_some e.lot lot (sym e.is_lot ∙ ap (slice_get lots) s ∙ at) in
          record {
            share = i;
            place = e.place;
            lot = new;
            is_lot = new_here;
            at = ap (λ ps. slice_get ps e.place) more
                ∙ get_front lot.places.items k m e.place (ap (λ (l : Lot A P). slice_get l.places.items e.place) (sym same) ∙ e.at);
          }
      | false ↦ λ off. record {
        share = e.share;
        place = e.place;
        lot = e.lot;
        is_lot = get_set_other lots i e.share new (other_number e.share i off) ∙ e.is_lot;
        at = e.at;
      }
    ] refl

    added : Dealt (slice_set lots i new) k
    added = record {
      share = i;
      place = length lot.places.items;
      lot = new;
      is_lot = new_here;
      at = ap (λ ps. slice_get ps (length lot.places.items)) more ∙ slice_end lot.places.items k;
    }

    fresh : (j t : ℕ) → In lots j t k → ⊥
    fresh j t e = let a = d.from j t k e in omega (arith, unique a.place n k a.at next, a.early)

    pub dealt_more : ((x : Item) → slice_get items k ≡ Some x → FailsWith o items fates x → ⊥) → DealtTo (n + 1) o items fates places (slice_set lots i new)
    dealt_more can = record {
      from = λ j t m e. from j t m (taken j t m e);
      can = λ j t m x e is. may j t m x is (taken j t m e);
      once = λ j t s u m e f. once j t s u m (taken j t m e) (taken s u m f);
      all = λ t m x l is it. all t m x is it
          (elim (eqb t n) as (λ b. eqb t n ≡ b → (t ≡ n) ⊎ (t < n)) [
            | true ↦ λ e. inl (exact_unsigned_eq t n e)
            | false ↦ λ e. inr (early t l (other_number t n e))
          ] refl);
    }
      where
        early : (t : ℕ) → t < n + 1 → (t ≡ n → ⊥) → t < n
        early t l off = elim (nat_lt t n) as (λ b. nat_lt t n ≡ b → t < n) [
          | true ↦ λ e. longer t n e
          | false ↦ λ e. absurd (off (let m = not_less t n e in omega (arith, l, m)))
        ] refl

        from : (j t m : ℕ) → Taken lots i k lot j t m → IsAmong (n + 1) places m
        from j t m (was_in e) = widen n places m (d.from j t m e)
        from j t m (put_in a b c) = record { place = n; at = next ∙ ap Some (sym c); early = omega arith }

        may : (j t m : ℕ) (x : Item) → slice_get items m ≡ Some x → Taken lots i k lot j t m → FailsWith o items fates x → ⊥
        may j t m x is (was_in e) fails = d.can j t m x e is fails
        may j t m x is (put_in a b c) fails = can x (ap (slice_get items) (sym c) ∙ is) fails

        once : (j t s u m : ℕ) → Taken lots i k lot j t m → Taken lots i k lot s u m → (j ≡ s) × (t ≡ u)
        once j t s u m (was_in e) (was_in f) = d.once j t s u m e f
        once j t s u m (was_in e) (put_in a b c) = absurd (fresh j t (subst (λ z. In lots j t z) c e))
        once j t s u m (put_in a b c) (was_in f) = absurd (fresh s u (subst (λ z. In lots s u z) c f))
        once j t s u m (put_in a b c) (put_in a' b' c') = (a ∙ sym a', b ∙ sym b')

        all : (t m : ℕ) (x : Item) → slice_get places t ≡ Some m → slice_get items m ≡ Some x → (t ≡ n) ⊎ (t < n)
            → FailsWith o items fates x ⊎ Dealt (slice_set lots i new) m
        all t m x is it (inl s) = inr (subst (Dealt (slice_set lots i new)) (same_some k m (sym next ∙ ap (slice_get places) (sym s) ∙ is)) added)
        all t m x is it (inr l) = by (d.all t m x l is it)
          where
            by : {F : Type 0} → F ⊎ Dealt lots m → F ⊎ Dealt (slice_set lots i new) m
            by (inl fails) = inl fails
            by (inr e) = inr (still m e)

  -- an item whose parent failed is in no share
  pub dealt_skip : (o : Order) (items : List Item) (fates : List Fate) (places : List ℕ) (lots : List (Lot A P)) (n k : ℕ)
      → slice_get places n ≡ Some k → ((x : Item) → slice_get items k ≡ Some x → FailsWith o items fates x) →
      DealtTo n o items fates places lots → DealtTo (n + 1) o items fates places lots
  dealt_skip o items fates places lots n k next fails d = record {
    from = λ j t m e. widen n places m (d.from j t m e);
    can = d.can;
    once = d.once;
    all = λ t m x l is it. elim (nat_lt t n) as (λ b. nat_lt t n ≡ b → FailsWith o items fates x ⊎ Dealt lots m) [
      | true ↦ λ e. d.all t m x (longer t n e) is it
      | false ↦ λ e. inl (fails x (ap (slice_get items) (same_some k m (sym next ∙ ap (slice_get places) (last t l (not_less t n e)) ∙ is)) ∙ it))
    ] refl;
  }
    where
      last : (t : ℕ) → t < n + 1 → n ≤ t → n ≡ t
      last t l m = omega (arith, l, m)

  -- no share has a place
  pub turn_none : (places : List ℕ) (lots : List (Lot A P)) → ((i : ℕ) (lot : Lot A P) → slice_get lots i ≡ Some lot → lot.places.items ≡ [])
      → AreInTurn places lots
  turn_none places lots empty i j k t e at = absurd (nothing e.lot.places.items (empty i e.lot e.is_lot) e.at)
    where
      nothing : (xs : List ℕ) → xs ≡ [] → slice_get xs j ≡ Some k → ⊥
      nothing [] e s = cc
      nothing (x ∷ xs) e s = cc

  pub all_dealt : (o : Order) (level n : ℕ) (items : List Item) (fates : List Fate) (places : List ℕ) (lots : List (Lot A P)) → TopsAreNested
      → AreItems items → AreOnLevel (length items) level items places → length places ≤ n →
      DealtTo n o items fates places lots → AreShares o level items fates lots
  all_dealt o level n items fates places lots nested are on l d = record {
    inside = λ i j k lot is e. let a = d.from i j k (record { lot = lot; is_lot = is; at = e }) in on.below a.place k a.at;
    on_level = λ i t x e. lev i t x e;
    can = λ i t x e. d.can i t e.at.place x (dealt i t x e) e.at.is;
    apart = λ i j t s x y other e f q within. elim (is_within q y.path) as (λ b. is_within q y.path ≡ b → b ≡ false) [
      | true ↦ λ within'. absurd (other (same i j t s x y q e f within within'))
      | false ↦ λ _. refl
    ] refl;
    all = λ k x is le. let a = on.all k x (slice_get_within items k x is) is le in d.all a.place k x (omega (arith, a.early, l)) a.at is;
  }
    where
      dealt : (i t : ℕ) (x : Item) (e : InLot items lots i t x) → In lots i t e.at.place
      dealt i t x e = record { lot = e.lot; is_lot = e.is_lot; at = e.at.at }

      lev : (i t : ℕ) (x : Item) → InLot items lots i t x → level_of x.path ≡ level
      lev i t x e = let a = d.from i t e.at.place (dealt i t x e) in on.on_level a.place e.at.place x a.at e.at.is

      same : (i j t s : ℕ) (x y : Item) (q : List ℕ) → InLot items lots i t x → InLot items lots j s y → is_within q x.path ≡ true
          → is_within q y.path ≡ true → (i ≡ j) × (t ≡ s)
      same i j t s x y q e f within within' =
          let over : x.path ≡ y.path =
          one_over nested x.path y.path q (are.valid e.at.place x e.at.is) (are.valid f.at.place y f.at.is)
          (lev i t x e ∙ sym (lev j s y f)) within within' in
          let place : e.at.place ≡ f.at.place = are.distinct e.at.place f.at.place x y e.at.is f.at.is over in
          d.once i t j s e.at.place (dealt i t x e) (subst (λ m. In lots j s m) (sym place) (dealt j s y f))

-- the places by level

count_next : (p : Item → Bool) (items : List Item) (n : ℕ) (x : Item) → slice_get items n ≡ Some x
    → count_by p (take (n + 1) items) ≡ count_by p (take n items) + cond (p x) 1 0
count_next p items n x e = ap (λ m. count_by p (take m items)) (more n) ∙ ap (count_by p) (split_take_suc items n x e)
    ∙ sum_by-append (λ y. cond (p y) 1 0) (take n items) (x ∷ []) ∙ ap (λ m. count_by p (take n items) + m) (none_plus (cond (p x) 1 0))
  where
    none_plus : (m : ℕ) → 0 + m ≡ m
    none_plus m = omega arith

    more : (m : ℕ) → m + 1 ≡ suc m
    more m = omega arith

-- an item more on the level, and one on another level
counted_on : (level : ℕ) (items : List Item) (n : ℕ) (x : Item) → slice_get items n ≡ Some x → level_of x.path ≡ level
    → count_by (is_on level) (take (n + 1) items) ≡ count_by (is_on level) (take n items) + 1
counted_on level items n x e on = count_next (is_on level) items n x e
    ∙ ap {B = ℕ} (λ b. count_by (is_on level) (take n items) + cond b 1 0) (same_true (level_of x.path) level on)
  where
    same_true : (a b : ℕ) → a ≡ b → nat_eq a b ≡ true
    same_true a b e = grind (arith, nat_tests)

counted_off : (level : ℕ) (items : List Item) (n : ℕ) (x : Item) → slice_get items n ≡ Some x → (level_of x.path ≡ level → ⊥)
    → count_by (is_on level) (take (n + 1) items) ≡ count_by (is_on level) (take n items)
counted_off level items n x e off = count_next (is_on level) items n x e
    ∙ ap {B = ℕ} (λ b. count_by (is_on level) (take n items) + cond b 1 0) (other_false (level_of x.path) level off)
    ∙ plus_none (count_by (is_on level) (take n items))
  where
    other_false : (a b : ℕ) → (a ≡ b → ⊥) → nat_eq a b ≡ false
    other_false a b n = grind (arith, nat_tests)

    plus_none : (m : ℕ) → m + 0 ≡ m
    plus_none m = omega arith

record Mapped {X Y : Type 0} (f : X → Y) (xs : List X) (i : ℕ) (y : Y) : Type 0 where
  it : X
  is_it : slice_get xs i ≡ Some it
  same : f it ≡ y

mapped : {X Y : Type 0} (f : X → Y) (xs : List X) (i : ℕ) (y : Y) → slice_get (map f xs) i ≡ Some y → Mapped f xs i y
mapped f [] i y e = cc
mapped f (x ∷ xs) zero y e = record { it = x; is_it = refl; same = same_some (f x) y e }
mapped f (x ∷ xs) (suc i) y e = let r = mapped f xs i y e in record { it = r.it; is_it = r.is_it; same = r.same }

pub no_levels : {V : Type 0} (f : V → List ℕ) (items : List Item) (levels : List V)
    → ((i : ℕ) (v : V) → slice_get levels i ≡ Some v → f v ≡ []) → AreByLevel 0 items (map f levels)
no_levels f items levels empty l places e = let m = mapped f levels l places e in by places (sym m.same ∙ empty l m.it m.is_it)
  where
    by : (places : List ℕ) → places ≡ [] → AreOnLevel 0 l items places
    by [] s = record {
      on_level = λ j k x e is. cc;
      below = λ j k e. cc;
      once = λ i j k e h. cc;
      all = λ k x less is lev. absurd (omega (arith, less));
      many = refl;
      turn = λ t k e. cc;
    }
    by (p ∷ ps) s = cc

pub one_place_more : {V : Type 0} (f : V → List ℕ) (n level : ℕ) (items : List Item) (x : Item) (levels : List V) (v v' : V)
    → slice_get items n ≡ Some x → level ≡ level_of x.path → slice_get levels level ≡ Some v → f v' ≡ f v ++ n ∷ []
    → AreByLevel n items (map f levels) →
    AreByLevel (n + 1) items (map f (slice_set levels level v'))
one_place_more f n level items x levels v v' at lev has more w l places e = by (mapped f (slice_set levels level v') l places e)
  where
    item : (k : ℕ) (y : Item) → k ≡ n → slice_get items k ≡ Some y → y ≡ x
    item k y s is = same_some y x (sym is ∙ ap (slice_get items) s ∙ at)

    here_more : AreOnLevel (n + 1) level items (f v ++ n ∷ [])
    here_more = record {
      on_level = λ j k y e' is. case_level j k y is (get_more (f v) n j k e');
      below = λ j k e'. case_below j k (get_more (f v) n j k e');
      once = λ i j k e' h. case_once i j k (get_more (f v) n i k e') (get_more (f v) n j k h);
      all = λ k y less is le. case_all k y is le
          (elim (eqb k n) as (λ b. eqb k n ≡ b → (k ≡ n) ⊎ (k < n)) [
            | true ↦ λ s. inl (exact_unsigned_eq k n s)
            | false ↦ λ s. inr (smaller k less (other_number k n s))
          ] refl);
      many = length_push (f v) n ∙ ap (λ m. m + 1) d.many ∙ sym (counted_on level items n x at (sym lev));
      turn = λ t k e'. case_turn t k (get_more (f v) n t k e');
    }
      where
        d : AreOnLevel n level items (f v)
        d = w level (f v) (map_get f levels level v has)

        smaller : (k : ℕ) → k < n + 1 → (k ≡ n → ⊥) → k < n
        smaller k less off = elim (nat_lt k n) as (λ b. nat_lt k n ≡ b → k < n) [
          | true ↦ λ s. longer k n s
          | false ↦ λ s. absurd (off (let m = not_less k n s in omega (arith, less, m)))
        ] refl

        case_level : (j k : ℕ) (y : Item) → slice_get items k ≡ Some y → (slice_get (f v) j ≡ Some k) ⊎ ((j ≡ length (f v)) × (n ≡ k)) → level_of y.path ≡ level
        case_level j k y is (inl old) = d.on_level j k y old is
        case_level j k y is (inr new) = ap (λ (z : Item). level_of z.path) (item k y (sym new.1) is) ∙ sym lev

        case_below : (j k : ℕ) → (slice_get (f v) j ≡ Some k) ⊎ ((j ≡ length (f v)) × (n ≡ k)) → k < n + 1
        case_below j k (inl old) = let b = d.below j k old in omega (arith, b)
        case_below j k (inr new) = omega (arith, new.1)

        case_once : (i j k : ℕ) → (slice_get (f v) i ≡ Some k) ⊎ ((i ≡ length (f v)) × (n ≡ k)) → (slice_get (f v) j ≡ Some k)
            ⊎ ((j ≡ length (f v)) × (n ≡ k)) → i ≡ j
        case_once i j k (inl a) (inl b) = d.once i j k a b
        case_once i j k (inl a) (inr b) = absurd (let s = d.below i k a in omega (arith, s, b.1))
        case_once i j k (inr a) (inl b) = absurd (let s = d.below j k b in omega (arith, s, a.1))
        case_once i j k (inr a) (inr b) = a.0 ∙ sym b.0

        case_turn : (t k : ℕ) → (slice_get (f v) t ≡ Some k) ⊎ ((t ≡ length (f v)) × (n ≡ k)) → t ≡ place_of items level k
        case_turn t k (inl old) = d.turn t k old
        case_turn t k (inr new) = new.0 ∙ d.many ∙ ap (place_of items level) new.1

        case_all : (k : ℕ) (y : Item) → slice_get items k ≡ Some y → level_of y.path ≡ level → (k ≡ n) ⊎ (k < n)
            → IsAmong (length (f v ++ n ∷ [])) (f v ++ n ∷ []) k
        case_all k y is le (inl s) = let e' = slice_end (f v) n ∙ ap Some (sym s) in
            record { place = length (f v); at = e'; early = slice_get_within (f v ++ n ∷ []) (length (f v)) k e' }
        case_all k y is le (inr less) = let a = d.all k y less is le in let e' = get_front (f v) n k a.place a.at in
            record { place = a.place; at = e'; early = slice_get_within (f v ++ n ∷ []) a.place k e' }

    by : Mapped f (slice_set levels level v') l places → AreOnLevel (n + 1) l items places
    by m = case (written levels level v' l m.it (slice_get_within levels level v has) m.is_it)
      where
        case : Written levels level v' l m.it → AreOnLevel (n + 1) l items places
        case (written_here s same) =
            subst (AreOnLevel (n + 1) l items) (sym more ∙ ap f same ∙ m.same)
            (subst (λ z. AreOnLevel (n + 1) z items (f v ++ n ∷ [])) (sym s) here_more)
        case (written_there off is_it) = record {
          on_level = d.on_level;
          below = λ j k e'. let b = d.below j k e' in omega (arith, b);
          once = d.once;
          all = λ k y less is le. elim (nat_lt k n) as (λ b. nat_lt k n ≡ b → IsAmong (length places) places k) [
            | true ↦ λ s. d.all k y (longer k n s) is le
            | false ↦ λ s. absurd (off (sym le ∙ ap (λ (z : Item). level_of z.path) (item k y (let q = not_less k n s in omega (arith, q, less)) is) ∙ sym lev))
          ] refl;
          many = d.many ∙ sym (counted_off l items n x at (λ s. off (sym s ∙ sym lev)));
          turn = d.turn;
        }
          where
            d : AreOnLevel n l items places
            d = subst (AreOnLevel n l items) m.same (w l (f m.it) (map_get f levels l m.it is_it))

-- lots of which one was written, with the same actor and the same part

pub same_seats : {A P : Type 0} (lots now : List (Lot A P)) (i : ℕ) (lot new : Lot A P) → slice_get now i ≡ Some lot → new.actor ≡ lot.actor
    → new.part ≡ lot.part → SameSeats lots now → SameSeats lots (slice_set now i new)
same_seats lots now i lot new at actor part s = record {
  len = length_set now i new ∙ s.len;
  actor = map_set (λ l. l.actor) now i lot new at actor ∙ s.actor;
  part = map_set (λ l. l.part) now i lot new at part ∙ s.part;
}

pub all_empty : {A P : Type 0} (i : ℕ) (now : List (Lot A P)) (new : Lot A P) → i < length now → (new.places.items ≡ [])
    × (new.fates.items ≡ []) × (new.lost ≡ false)
    → ((j : ℕ) (lot : Lot A P) → j < i → slice_get now j ≡ Some lot → (lot.places.items ≡ []) × (lot.fates.items ≡ []) × (lot.lost ≡ false))
    →
    (j : ℕ) (lot : Lot A P) → j < i + 1 → slice_get (slice_set now i new) j ≡ Some lot → (lot.places.items ≡ []) × (lot.fates.items ≡ []) × (lot.lost ≡ false)
all_empty i now new l here_empty before j lot less e = by (written now i new j lot l e)
  where
    by : Written now i new j lot → (lot.places.items ≡ []) × (lot.fates.items ≡ []) × (lot.lost ≡ false)
    by (written_here s same) = subst (λ (z : Lot _ _). (z.places.items ≡ []) × (z.fates.items ≡ []) × (z.lost ≡ false)) same here_empty
    by (written_there off is) =
        before j lot (elim (nat_lt j i) as
        (λ b. nat_lt j i ≡ b → j < i) [
          | true ↦ λ s. longer j i s
          | false ↦ λ s. absurd (off (let q = not_less j i s in omega (arith, q, less)))
        ] refl) is

pub all_fresh : {A P : Type 0} (i : ℕ) (now : List (Lot A P)) (lot new : Lot A P) → slice_get now i ≡ Some lot → new.fates ≡ lot.fates
    → new.lost ≡ lot.lost → ((j : ℕ) (l : Lot A P) → slice_get now j ≡ Some l → (l.fates.items ≡ []) × (l.lost ≡ false)) →
    (j : ℕ) (l : Lot A P) → slice_get (slice_set now i new) j ≡ Some l → (l.fates.items ≡ []) × (l.lost ≡ false)
all_fresh i now lot new at fates lost fresh j l e = by (written now i new j l (slice_get_within now i lot at) e)
  where
    by : Written now i new j l → (l.fates.items ≡ []) × (l.lost ≡ false)
    by (written_here s same) = let f = fresh i lot at in
        subst (λ (z : Lot _ _). (z.fates.items ≡ []) × (z.lost ≡ false)) same (ap (λ v. v.items) fates ∙ f.0, lost ∙ f.1)
    by (written_there off is) = fresh j l is

pub set_below : {V : Type 0} (items : List Item) (levels : List V) (i : ℕ) (v : V) → AllBelow (length levels) items
    → AllBelow (length (slice_set levels i v)) items
set_below items levels i v w = subst (λ n. AllBelow n items) (sym (length_set levels i v)) w

pub seats_on : {A P : Type 0} (lots now next : List (Lot A P)) → SameSeats lots now → SameSeats now next → SameSeats lots next
seats_on lots now next x y = record { len = y.len ∙ x.len; actor = y.actor ∙ x.actor; part = y.part ∙ x.part }

pub seats_here : {A P : Type 0} (lots : List (Lot A P)) → SameSeats lots lots
seats_here lots = record { len = refl; actor = refl; part = refl }

-- one place more is dealt
module _ {A P : Type 0} (o : Order) (items : List Item) (fates : List Fate) (places : List ℕ) (lots next : List (Lot A P)) (n k i : ℕ)
    (at : slice_get places n ≡ Some k) (unique : (a b c : ℕ) → slice_get places a ≡ Some c → slice_get places b ≡ Some c → a ≡ b) where
  pub dealt_on : DealsOne o items fates k i lots next → DealtTo n o items fates places lots → DealtTo (n + 1) o items fates places next
  dealt_on (left_out fails same) d = subst (DealtTo (n + 1) o items fates places) (sym same) (dealt_skip o items fates places lots n k at fails d)
  dealt_on (dealt_to lot new at' can more fates' lost same) d =
      subst (DealtTo (n + 1) o items fates places) (sym same) (dealt_more o items fates places lots n i k lot new at' more at unique d can)

  pub turn_on : DealsOne o items fates k i lots next → DealtTo n o items fates places lots → i ≡ n % length lots → AreInTurn places lots
      → AreInTurn places next
  turn_on (left_out fails same) d is turn = subst (AreInTurn places) (sym same) turn
  turn_on (dealt_to lot new at' can more fates' lost same) d is turn = subst (AreInTurn places) (sym same)
      (λ j t m s e here. by j t m s here (taken o items fates places lots n i k lot new at' more at unique d j t m e)
      ∙ ap (λ l. s % l) (sym (length_set lots i new)))
    where
      by : (j t m s : ℕ) → slice_get places s ≡ Some m → Taken lots i k lot j t m → j ≡ s % length lots
      by j t m s here (was_in e) = turn j t m s e here
      by j t m s here (put_in to last new') = to ∙ is ∙ ap (λ p. p % length lots) (unique n s k at (here ∙ ap Some new'))

  pub fresh_on : DealsOne o items fates k i lots next
      → ((j : ℕ) (l : Lot A P) → slice_get lots j ≡ Some l → (l.fates.items ≡ []) × (l.lost ≡ false)) → (j : ℕ) (l : Lot A P)
      → slice_get next j ≡ Some l → (l.fates.items ≡ []) × (l.lost ≡ false)
  fresh_on (left_out fails same) fresh j l e = fresh j l (ap (λ ls. slice_get ls j) (sym same) ∙ e)
  fresh_on (dealt_to lot new at' can more fates' lost same) fresh j l e =
      all_fresh i lots lot new at' fates' lost fresh j l (ap (λ ls. slice_get ls j) (sym same) ∙ e)

-- the paths that failed say what is left out
pub left_out_by : (o : Order) (items : List Item) (fates : List Fate) (paths : List (List ℕ)) (k : ℕ) (y : Item) → o ≡ order.TopDown
    → slice_get items k ≡ Some y → Knows o items fates paths → (has : Bool) → has ≡ has_path paths (parent_of y.path) → has ≡ true →
    (x : Item) → slice_get items k ≡ Some x → FailsWith o items fates x
left_out_by order.TopDown items fates paths k y e at w has h on x at' =
    failed_parent items fates paths x w (ap (λ (z : Item). has_path paths (parent_of z.path)) (same_some x y (sym at' ∙ at)) ∙ sym h ∙ on)
left_out_by order.BottomUp items fates paths k y e at w has h on x at' = cc

pub not_left_out : (o : Order) (items : List Item) (fates : List Fate) (paths : List (List ℕ)) (k : ℕ) (y : Item) → o ≡ order.TopDown
    → slice_get items k ≡ Some y → Knows o items fates paths → (has : Bool) → has ≡ has_path paths (parent_of y.path) → has ≡ false →
    (x : Item) → slice_get items k ≡ Some x → FailsWith o items fates x → ⊥
not_left_out order.TopDown items fates paths k y e at w has h off x at' fails =
    no_failed_parent items fates paths x w
    (ap (λ (z : Item). has_path paths (parent_of z.path)) (same_some x y (sym at' ∙ at)) ∙ sym h ∙ off) fails
not_left_out order.BottomUp items fates paths k y e at w has h off x at' fails = fails

-- a level that is taken is one of the levels
pub level_below : (o : Order) (top turn : ℕ) → turn < top → level_at o top turn < top
level_below order.TopDown top turn l = l
level_below order.BottomUp top turn l = omega (arith, l)
