-- Fates stored, and failed paths noted.
use Rattle.level_work.proofs.Prelude.{◌≡◌, ◌≢◌, ◌⊎◌, inl, inr, ℕ, zero, suc, ◌+◌, ◌<◌, ◌≤◌, Bool, true, false, cond, ◌||◌, List, [], ◌∷◌, length, take, Some}
use Rattle.level_work.proofs.Prelude.{refl, ap, ◌∙◌, sym, arith, eqb, nat_eq, nat_lt, slice_get, slice_set, false≢true, or_right, slice_get_within, sum_by-cons}
use Rattle.level_work.proofs.Prelude.{sum_by-append, count_by, sum_by, pointwise, bytes_decides, level_of, itself, is_done, is_failed, TellsLevel, AreShares, Stored}
use Rattle.level_work.proofs.Prelude.{AreOnLevel, FailedAt, IsFresh, Knows, has_path, In, IsLeftOut, IsStored, AreStored, IsNoted, Notes, Item, Fate, Order}
use Rattle.level_work.proofs.Prelude.{Lot, exact_unsigned_eq, longer}
use Rattle.level_work.specs.declared.items.Fate.TheVariants as fate
use Rattle.level_work.specs.declared.items.Order.TheVariants as order
use Rattle.level_work.proofs.Giving.{get_set_same, get_set_other, length_set, split_take, take_all}
use Rattle.level_work.proofs.Working.{same_some, count_more, not_less, other_number}
use Rattle.level_work.proofs.Deals.{widen}

count_set : (xs : List Fate) (k : ℕ) (f : Fate) → count_by is_failed (slice_set xs k f) ≤ count_by is_failed xs + cond (is_failed f) 1 0
count_set [] k f = omega arith
count_set (x ∷ xs) zero f = omega (arith, sum_by-cons (λ y. cond (is_failed y) 1 0) f xs, sum_by-cons (λ y. cond (is_failed y) 1 0) x xs)
count_set (x ∷ xs) (suc k) f = let r = count_set xs k f in
    omega (arith, r, sum_by-cons (λ y. cond (is_failed y) 1 0) x (slice_set xs k f), sum_by-cons (λ y. cond (is_failed y) 1 0) x xs)

-- a number up to n is n or is less
pub up_to : (t n : ℕ) → t < n + 1 → (t ≡ n) ⊎ (t < n)
up_to t n l = elim (eqb t n) as (λ b. eqb t n ≡ b → (t ≡ n) ⊎ (t < n)) [
  | true ↦ λ e. inl (exact_unsigned_eq t n e)
  | false ↦ λ e. inr (early (other_number t n e))
] refl
  where
    early : (t ≡ n → ⊥) → t < n
    early off = elim (nat_lt t n) as (λ b. nat_lt t n ≡ b → t < n) [
      | true ↦ λ e. longer t n e
      | false ↦ λ e. absurd (off (let m = not_less t n e in omega (arith, l, m)))
    ] refl

pub none_left_out : (places : List ℕ) (fates : List Fate) → IsLeftOut 0 places fates fates
none_left_out places fates = record { len = refl; others = λ k off. refl; each = λ j k l at. absurd (omega (arith, l)); most = omega arith }

pub left_out_more : (n k : ℕ) (places : List ℕ) (old mid : List Fate) → slice_get places n ≡ Some k → k < length mid
    → IsLeftOut n places old mid → IsLeftOut (n + 1) places old (slice_set mid k fate.ParentFailed)
left_out_more n k places old mid at inside w = record {
  len = length_set mid k fate.ParentFailed ∙ w.len;
  others = λ m off. get_set_other mid k m fate.ParentFailed
      (λ e. off (record { place = n; at = at ∙ ap Some (sym e); early = omega arith })) ∙ w.others m (λ a. off (widen n places m a));
  each = λ j m l at'. elim (eqb m k) as (λ b. eqb m k ≡ b → slice_get (slice_set mid k fate.ParentFailed) m ≡ Some fate.ParentFailed) [
    | true ↦ λ e. ap (slice_get (slice_set mid k fate.ParentFailed)) (exact_unsigned_eq m k e) ∙ get_set_same mid k fate.ParentFailed inside
    | false ↦ λ e. get_set_other mid k m fate.ParentFailed (other_number m k e) ∙ w.each j m (earlier j m l at' (other_number m k e)) at'
  ] refl;
  most = omega (arith, count_set mid k fate.ParentFailed, w.most);
}
  where
    earlier : (j m : ℕ) → j < n + 1 → slice_get places j ≡ Some m → (m ≡ k → ⊥) → j < n
    earlier j m l at' off = by (up_to j n l)
      where
        by : (j ≡ n) ⊎ (j < n) → j < n
        by (inl e) = absurd (off (same_some m k (sym at' ∙ ap (slice_get places) e ∙ at)))
        by (inr h) = h

pub none_stored : (places : List ℕ) (told fates : List Fate) → IsStored 0 places told fates fates
none_stored places told fates = record { len = refl; others = λ k off. refl; each = λ j k l at. absurd (omega (arith, l)); most = omega arith }

pub stored_more : (n k : ℕ) (f : Fate) (places : List ℕ) (told old mid : List Fate) → slice_get places n ≡ Some k
    → slice_get told n ≡ Some f → k < length mid → ((i j m : ℕ) → slice_get places i ≡ Some m → slice_get places j ≡ Some m → i ≡ j)
    → IsStored n places told old mid →
    IsStored (n + 1) places told old (slice_set mid k f)
stored_more n k f places told old mid at is inside once w = record {
  len = length_set mid k f ∙ w.len;
  others = λ m off. get_set_other mid k m f (λ e. off (record { place = n; at = at ∙ ap Some (sym e); early = omega arith }))
      ∙ w.others m (λ a. off (widen n places m a));
  each = λ j m l at'. by j m at' (up_to j n l);
  most = omega (arith, count_set mid k f, w.most, ap (count_by is_failed) (split_take told n f is), count_more (take n told) f);
}
  where
    by : (j m : ℕ) → slice_get places j ≡ Some m → (j ≡ n) ⊎ (j < n) → slice_get (slice_set mid k f) m ≡ slice_get told j
    by j m at' (inl e) =
        let same : m ≡ k = same_some m k (sym at' ∙ ap (slice_get places) e ∙ at) in
        ap (slice_get (slice_set mid k f)) same ∙ get_set_same mid k f inside ∙ sym is ∙ ap (slice_get told) (sym e)
    by j m at' (inr l) = get_set_other mid k m f (λ e. absurd (let s = once j n k (at' ∙ ap Some e) at in omega (arith, s, l))) ∙ w.each j m l at'

module _ {A P : Type 0} where
  pub no_share_stored : (lots : List (Lot A P)) (fates : List Fate) → AreStored 0 lots fates fates
  no_share_stored lots fates = record { len = refl; others = λ k off. refl; each = λ i j k l e. absurd (omega (arith, l)); most = omega arith }

  pub share_stored : (n : ℕ) (lots : List (Lot A P)) (lot : Lot A P) (old mid new : List Fate) → slice_get lots n ≡ Some lot
      → length lot.fates.items ≡ length lot.places.items → ((i j s t k : ℕ) → In lots i j k → In lots s t k → (i ≡ s) × (j ≡ t)) →
      AreStored n lots old mid → IsStored (length lot.places.items) lot.places.items lot.fates.items mid new → AreStored (n + 1) lots old new
  share_stored n lots lot old mid new at len once v w = record {
    len = w.len ∙ v.len;
    others = λ k off. w.others k (λ a. off n a.place (omega arith) (record { lot = lot; is_lot = at; at = a.at }))
        ∙ v.others k (λ i j l e. off i j (omega (arith, l)) e);
    each = λ i j k l e. by i j k e (up_to i n l);
    most = omega (
      arith,
      w.most,
      v.most,
      ap (count_by is_failed) (take_all lot.fates.items (length lot.places.items) (omega (arith, len))),
      ap (sum_by (λ (l : Lot A P). count_by is_failed l.fates.items)) (split_take lots n lot at),
      sum_by-append (λ (l : Lot A P). count_by is_failed l.fates.items) (take n lots) (lot ∷ []),
      sum_by-cons (λ (l : Lot A P). count_by is_failed l.fates.items) lot [],
    );
  }
    where
      by : (i j k : ℕ) (e : In lots i j k) → (i ≡ n) ⊎ (i < n) → slice_get new k ≡ slice_get e.lot.fates.items j
      by i j k e (inl s) =
          let same : lot ≡ e.lot = same_some lot e.lot (sym at ∙ ap (slice_get lots) (sym s) ∙ e.is_lot) in
          let here : slice_get lot.places.items j ≡ Some k = ap (λ (l : Lot A P). slice_get l.places.items j) same ∙ e.at in
          w.each j k (slice_get_within lot.places.items j k here) here ∙ ap (λ (l : Lot A P). slice_get l.fates.items j) same
      by i j k e (inr l) = w.others k (λ a. let s = once i j n a.place k e (record { lot = lot; is_lot = at; at = a.at }) in
          omega (arith, s.0, l)) ∙ v.each i j k l e

  pub dealt_once : (o : Order) (level : ℕ) (items : List Item) (old : List Fate) (lots : List (Lot A P)) → AreShares o level items old lots
      → (x : (k : ℕ) → k < length items → (y : Item) × (slice_get items k ≡ Some y)) → (i j s t k : ℕ) → In lots i j k → In lots s t k
      → (i ≡ s) × (j ≡ t)
  dealt_once o level items old lots are some i j s t k e f = by (eqb i s) (eqb j t) refl refl
    where
      x : (y : Item) × (slice_get items k ≡ Some y)
      x = some k (are.inside i j k e.lot e.is_lot e.at)

      clash : ((i ≡ s) × (j ≡ t) → ⊥) → ⊥
      clash off = false≢true (sym
          (are.apart i s j t x.0 x.0 off (record { lot = e.lot; is_lot = e.is_lot; at = record { place = k; at = e.at; is = x.1 } })
          (record { lot = f.lot; is_lot = f.is_lot; at = record { place = k; at = f.at; is = x.1 } }) x.0.path (itself x.0.path))
          ∙ itself x.0.path)

      by : (b c : Bool) → eqb i s ≡ b → eqb j t ≡ c → (i ≡ s) × (j ≡ t)
      by true true p q = (exact_unsigned_eq i s p, exact_unsigned_eq j t q)
      by true false p q = absurd (clash (λ h. other_number j t q h.1))
      by false c p q = absurd (clash (λ h. other_number i s p h.0))

  pub all_stored : (o : Order) (level : ℕ) (items : List Item) (places : List ℕ) (lots : List (Lot A P)) (old mid new : List Fate)
      → AreOnLevel (length items) level items places → AreShares o level items old lots
      → ((k : ℕ) → k < length items → (y : Item) × (slice_get items k ≡ Some y)) →
      IsLeftOut (length places) places old mid → AreStored (length lots) lots mid new → Stored level items lots old new
  all_stored o level items places lots old mid new on are some w v = record {
    len = v.len ∙ w.len;
    others = λ k x at off. v.others k
        (λ i j l e. off (are.on_level i j x (record { lot = e.lot; is_lot = e.is_lot; at = record { place = k; at = e.at; is = at } })))
        ∙ w.others k (λ a. off (on.on_level a.place k x a.at at));
    dealt = λ k d. v.each d.share d.place k (slice_get_within lots d.share d.lot d.is_lot) (record { lot = d.lot; is_lot = d.is_lot; at = d.at });
    undealt = λ k x f at has lev off. let a = on.all k x (slice_get_within items k x at) at lev in
        same_some f fate.ParentFailed
        (sym has ∙ v.others k (λ i j l e. off (record { share = i; place = j; lot = e.lot; is_lot = e.is_lot; at = e.at }))
        ∙ w.each a.place k a.early a.at);
    most = omega (arith, v.most, w.most, ap (sum_by (λ (l : Lot A P). count_by is_failed l.fates.items)) (take_all lots (length lots) (omega arith)));
  }

-- failed paths

pub none_noted : (items : List Item) (fates : List Fate) (places : List ℕ) (paths : List (List ℕ)) → IsNoted 0 items fates places paths paths
none_noted items fates places paths = record { sound = λ q e. inl e; kept = λ q e. e; each = λ j k x f l. absurd (omega (arith, l)) }

pub done_is : (f : Fate) → is_done f ≡ true → f ≡ fate.Done
done_is fate.Done e = refl
done_is fate.Failed e = absurd (false≢true e)
done_is fate.Conflict e = absurd (false≢true e)
done_is fate.Skipped e = absurd (false≢true e)
done_is fate.ParentFailed e = absurd (false≢true e)
done_is fate.Changed e = absurd (false≢true e)
done_is fate.NotEmpty e = absurd (false≢true e)
done_is fate.TooLong e = absurd (false≢true e)

pub undone : (f : Fate) → is_done f ≡ false → f ≢ fate.Done
undone f off e = absurd (false≢true (sym off ∙ ap is_done e))

pub noted_skip : (n k : ℕ) (f : Fate) (items : List Item) (fates : List Fate) (places : List ℕ) (old now : List (List ℕ))
    → slice_get places n ≡ Some k → slice_get fates k ≡ Some f → f ≡ fate.Done → IsNoted n items fates places old now
    → IsNoted (n + 1) items fates places old now
noted_skip n k f items fates places old now at has done w = record {
  sound = w.sound;
  kept = w.kept;
  each = λ j m x g l at' is has' not. by j m x g at' is has' not (up_to j n l);
}
  where
    by : (j m : ℕ) (x : Item) (g : Fate) → slice_get places j ≡ Some m → slice_get items m ≡ Some x → slice_get fates m ≡ Some g
        → g ≢ fate.Done → (j ≡ n) ⊎ (j < n) → has_path now x.path ≡ true
    by j m x g at' is has' not (inl e) =
        let same : m ≡ k = same_some m k (sym at' ∙ ap (slice_get places) e ∙ at) in
        absurd (not (same_some g f (sym has' ∙ ap (slice_get fates) same ∙ has) ∙ done))
    by j m x g at' is has' not (inr l) = w.each j m x g l at' is has' not

pub noted_more : (n k : ℕ) (f : Fate) (x : Item) (items : List Item) (fates : List Fate) (places : List ℕ) (old now next : List (List ℕ))
    → slice_get places n ≡ Some k → slice_get items k ≡ Some x → slice_get fates k ≡ Some f → f ≢ fate.Done →
    ((q : List ℕ) → has_path next q ≡ (pointwise nat_eq q x.path || has_path now q)) → IsNoted n items fates places old now
    → IsNoted (n + 1) items fates places old next
noted_more n k f x items fates places old now next at is has not add w = record {
  sound = λ q e. elim (pointwise nat_eq q x.path) as
      (λ b. pointwise nat_eq q x.path ≡ b → (b || has_path now q) ≡ true → (has_path old q ≡ true) ⊎ FailedAt items fates q) [
        | true ↦ λ s _. inr (record { place = k; item = x; fate_of = f; at = is; has = has; is_path = sym ((bytes_decides q x.path).0 s); not_done = not })
        | false ↦ λ _ h. w.sound q h
      ] refl (sym (add q) ∙ e);
  kept = λ q e. add q ∙ or_right (pointwise nat_eq q x.path) (has_path now q) (w.kept q e);
  each = λ j m y g l at' is' has' not'. by j m y g at' is' has' not' (up_to j n l);
}
  where
    by : (j m : ℕ) (y : Item) (g : Fate) → slice_get places j ≡ Some m → slice_get items m ≡ Some y → slice_get fates m ≡ Some g
        → g ≢ fate.Done → (j ≡ n) ⊎ (j < n) → has_path next y.path ≡ true
    by j m y g at' is' has' not' (inr l) = add y.path ∙ or_right (pointwise nat_eq y.path x.path) (has_path now y.path) (w.each j m y g l at' is' has' not')
    by j m y g at' is' has' not' (inl e) =
        let same : m ≡ k = same_some m k (sym at' ∙ ap (slice_get places) e ∙ at) in
        let item : y ≡ x = same_some y x (sym is' ∙ ap (slice_get items) same ∙ is) in
        add y.path ∙ ap (λ b. b || has_path now y.path) ((bytes_decides y.path x.path).1 (ap (λ (z : Item). z.path) item))

-- the failed paths after a level, from those before it
pub knows_more : (o : Order) (level : ℕ) (items : List Item) (places : List ℕ) (old new : List Fate) (paths paths' : List (List ℕ))
    → AreOnLevel (length items) level items places → IsFresh level items old → TellsLevel o level items old new → length old ≡ length items
    →
    Knows o items old paths → Notes o items new places paths paths' → Knows o items new paths'
knows_more order.BottomUp level items places old new paths paths' on fresh t len w v = tt
knows_more order.TopDown level items places old new paths paths' on fresh t len w v = record {
  sound = λ q e. by q (v.sound q e);
  complete = λ k x f at has not. elim (eqb (level_of x.path) level) as (λ b. eqb (level_of x.path) level ≡ b → has_path paths' x.path ≡ true) [
    | true ↦ λ e. let a = on.all k x (slice_get_within items k x at) at
        (exact_unsigned_eq (level_of x.path) level e) in v.each a.place k x f a.early a.at at has not
    | false ↦ λ e. v.kept x.path (w.complete k x f at (sym (t.others k x at (other_number (level_of x.path) level e)) ∙ has) not)
  ] refl;
}
  where
    by : (q : List ℕ) → (has_path paths q ≡ true) ⊎ FailedAt items new q → FailedAt items new q
    by q (inr f) = f
    by q (inl e) = let f = w.sound q e in
        record {
          place = f.place;
          item = f.item;
          fate_of = f.fate_of;
          at = f.at;
          has = t.others f.place f.item f.at (λ l. f.not_done (fresh f.place f.item f.fate_of f.at f.has l)) ∙ f.has;
          is_path = f.is_path;
          not_done = f.not_done;
        }
