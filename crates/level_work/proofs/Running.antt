-- Level by level, turn after turn.
use Rattle.level_work.proofs.Prelude.{◌≡◌, ◌≢◌, ◌⊎◌, inl, inr, ℕ, zero, suc, ◌+◌, ◌-◌, ◌<◌, ◌≤◌, true, false, cond, ◌||◌, List, [], ◌∷◌, length, Option, Some}
use Rattle.level_work.proofs.Prelude.{None, IfSome, refl, ap, ◌∙◌, sym, subst, arith, nat_eq, nat_le, is_some, slice_get, false≢true, or_parts, nat_tests}
use Rattle.level_work.proofs.Prelude.{Result, Ok, Err, OnErr, get, slice_get_within, pointwise, bytes_decides, level_of, parent_of, refusal, Files, is_dir}
use Rattle.level_work.proofs.Prelude.{is_root, Deed, at_and_under, MakesDirs, found, left, Acted, SameButItems, is_item, FailsWith, ParentsFail, StandIn}
use Rattle.level_work.proofs.Prelude.{AreItems, OneLevel, is_level_done, AllBelow, mark_at, level_at, Sofar, SameButLevel, CanStep, TellsLevel, Ran, Item, Fate}
use Rattle.level_work.proofs.Prelude.{Order, parent_above, some_bytes, less, longer}
use Rattle.std.proofs.Common.{◌↔◌}
use Rattle.level_work.specs.declared.items.Fate.TheVariants as fate
use Rattle.level_work.specs.declared.items.Order.TheVariants as order
use Rattle.level_work.proofs.Frames.{get_here}
use Rattle.level_work.proofs.Stages.{Next, get_with, other_level, le_true, true_le, done_after, not_here, level_more}
use Rattle.level_work.proofs.Working.{some_at, same_some, both_told, same_told}

pub is_no_item : (items : List Item) (q : List ℕ) (k : ℕ) (x : Item) → is_item items q ≡ false → slice_get items k ≡ Some x → pointwise nat_eq q x.path ≡ false
is_no_item [] q k x off at = cc
is_no_item (y ∷ items) q zero x off at =
    subst (λ (z : Item). pointwise nat_eq q z.path ≡ false) (same_some y x at) (or_parts (pointwise nat_eq q y.path) _ off).0
is_no_item (y ∷ items) q (suc k) x off at = is_no_item items q k x (or_parts (pointwise nat_eq q y.path) _ off).1 at

pub record Standing (items : List Item) (q : List ℕ) : Type 0 where
  pub place : ℕ
  pub item : Item
  pub at : slice_get items place ≡ Some item
  pub is : item.path ≡ q

pub standing : (items : List Item) (q : List ℕ) → is_item items q ≡ true → Standing items q
standing [] q e = absurd (false≢true e)
standing (y ∷ items) q e = elim (pointwise nat_eq q y.path) as (λ b. pointwise nat_eq q y.path ≡ b → (b || is_item items q) ≡ true → Standing (y ∷ items) q) [
  | true ↦ λ is e. record { place = 0; item = y; at = refl; is = sym ((bytes_decides q y.path).0 is) }
  | false ↦ λ _ e. let s = standing items q e in record { place = suc s.place; item = s.item; at = s.at; is = s.is }
] refl e

pub no_item : (items : List Item) (q : List ℕ) → ((k : ℕ) (x : Item) → slice_get items k ≡ Some x → pointwise nat_eq q x.path ≡ false) → is_item items q ≡ false
no_item [] q h = refl
no_item (y ∷ items) q h = ap (λ b. b || is_item items q) (h 0 y refl) ∙ no_item items q (λ k x at. h (suc k) x at)

pub next_at : (o : Order) (top turn : ℕ) → turn < top → Next o (mark_at o top turn) (level_at o top turn) (mark_at o top (turn + 1))
next_at order.TopDown top turn l = (refl, refl)
next_at order.BottomUp top turn l = (omega (arith, l), omega (arith, l))

pub not_yet : (o : Order) (top m : ℕ) → m < top → is_level_done o (mark_at o top 0) m ≡ false
not_yet order.TopDown top m l = grind (arith, nat_tests)
not_yet order.BottomUp top m l = let e : top - 0 ≡ top = omega arith in ap (λ t. nat_le t m) e ∙ grind (arith, nat_tests)

pub at_last : (o : Order) (top m : ℕ) → m < top → is_level_done o (mark_at o top top) m ≡ true
at_last order.TopDown top m l = less m top l
at_last order.BottomUp top m l = true_le (top - top) m (omega arith)

none_done : (deed : Deed) (o : Order) (top : ℕ) (items : List Item) (fates : List Fate) (files : Files) → AllBelow top items
    → Sofar deed o (mark_at o top 0) items fates files files
none_done deed o top items fates files below = record {
  pending = λ q off. refl;
  each = λ k x f at has done. absurd (false≢true (sym (not_yet o top (level_of x.path) (below k x at)) ∙ done));
}

pub ran_none : (deed : Deed) (o : Order) (top : ℕ) (items : List Item) (fates : List Fate) (t : Option Files) → AllBelow top items
    → length fates ≡ length items → Ran deed o top 0 items fates t t
ran_none deed o top items fates t below len = record {
  len = len;
  told = λ k x f at has done. absurd (false≢true (sym (not_yet o top (level_of x.path) (below k x at)) ∙ done));
  sofar = same_told (Sofar deed o (mark_at o top 0) items fates) t (λ a. none_done deed o top items fates a below);
  tells = refl;
}

-- what an item's parent came to does not change on a deeper level
fails_same : (o : Order) (level : ℕ) (items : List Item) (old new : List Fate) (x : Item) → refusal x.path ≡ None → is_root x.path ≡ false
    → level_of x.path ≤ level ⊎ (o ≡ order.BottomUp) → TellsLevel o level items old new → FailsWith o items old x ↔ FailsWith o items new x
fails_same order.BottomUp level items old new x fine off l t = ((λ h. h), (λ h. h))
fails_same order.TopDown level items old new x fine off (inr e) t = absurd (clash e)
  where
    clash : order.TopDown ≡ order.BottomUp → ⊥
    clash e = cc
fails_same order.TopDown level items old new x fine off (inl l) t = (
  (λ h. record {
    place = h.place;
    item = h.item;
    fate_of = h.fate_of;
    at = h.at;
    has = kept h.place h.item h.at h.is_parent ∙ h.has;
    is_parent = h.is_parent;
    not_done = h.not_done;
  }),
  (λ h. record {
    place = h.place;
    item = h.item;
    fate_of = h.fate_of;
    at = h.at;
    has = sym (kept h.place h.item h.at h.is_parent) ∙ h.has;
    is_parent = h.is_parent;
    not_done = h.not_done;
  }),
)
  where
    kept : (k : ℕ) (y : Item) → slice_get items k ≡ Some y → y.path ≡ parent_of x.path → slice_get new k ≡ slice_get old k
    kept k y at e = let a = parent_above x.path fine off in t.others k y at (λ s. omega (arith, a, l, s, ap level_of e))

-- an item came to `Done`, or not
is_it_done : (f : Fate) → (f ≡ fate.Done) ⊎ (f ≢ fate.Done)
is_it_done fate.Done = inl refl
is_it_done fate.Failed = inr (λ e. cc)
is_it_done fate.Conflict = inr (λ e. cc)
is_it_done fate.Skipped = inr (λ e. cc)
is_it_done fate.ParentFailed = inr (λ e. cc)
is_it_done fate.Changed = inr (λ e. cc)
is_it_done fate.NotEmpty = inr (λ e. cc)
is_it_done fate.TooLong = inr (λ e. cc)

no_parent_failed : (f : Fate) → f ≡ fate.Done → f ≢ fate.ParentFailed
no_parent_failed f e s = clash (sym e ∙ s)
  where
    clash : fate.Done ≡ fate.ParentFailed → ⊥
    clash e = cc

module _ (deed : Deed) (items : List Item) (fates : List Fate) (ok : AreItems items) (len : length fates ≡ length items) (before now : Files) where
  -- the next level can be taken
  step_files : (o : Order) (t l t' : ℕ) → Next o t l t' → StandIn o items before → MakesDirs o deed items before
      → Sofar deed o t items fates before now → CanStep o l items fates now
  step_files order.BottomUp t l t' n stand makes s k x at lev fails =
      ap is_dir (s.pending (parent_of x.path)
      (λ j y at' done. other_level (parent_of x.path) y.path (λ e. let a = parent_above x.path (ok.valid k x at) (ok.no_root k x at) in
      let b = le_true t (level_of y.path) done in omega (arith, a, b, e, lev, n.0)))) ∙ stand k x at
  step_files order.TopDown t l t' n stand makes s k x at lev fails =
      elim (is_item items (parent_of x.path)) as (λ b. is_item items (parent_of x.path) ≡ b → is_dir (get now (parent_of x.path)) ≡ true) [
        | false ↦ λ off. ap is_dir (s.pending (parent_of x.path) (λ j y at' done. is_no_item items (parent_of x.path) j y off at')) ∙ stand k x at off
        | true ↦ λ on. by (standing items (parent_of x.path) on)
      ] refl
    where
      by : Standing items (parent_of x.path) → is_dir (get now (parent_of x.path)) ≡ true
      by p = done (is_it_done g.0)
        where
          g : (f : Fate) × (slice_get fates p.place ≡ Some f)
          g = some_at fates p.place (omega (arith, len, slice_get_within items p.place p.item p.at))

          below : is_level_done order.TopDown t (level_of p.item.path) ≡ true
          below = less (level_of p.item.path) t (let a = parent_above x.path (ok.valid k x at) (ok.no_root k x at) in
              omega (arith, a, lev, n.0, ap level_of p.is))

          done : (g.0 ≡ fate.Done) ⊎ (g.0 ≢ fate.Done) → is_dir (get now (parent_of x.path)) ≡ true
          done (inr not) = absurd (fails (record { place = p.place; item = p.item; fate_of = g.0; at = p.at; has = g.1; is_parent = p.is; not_done = not }))
          done (inl is) =
              let h = s.each p.place p.item g.0 p.at g.1 below in
              let d : deed p.item.path p.item.entry fate.Done (found order.TopDown p.item.path before now)
              (left order.TopDown p.item.path before now) =
              subst (λ f. deed p.item.path p.item.entry f (found order.TopDown p.item.path before now)
              (left order.TopDown p.item.path before now)) is (h.touched (no_parent_failed g.0 is)) in
              ap (λ q. is_dir (get now q)) (sym p.is)
              ∙ ap is_dir (sym (get_with p.item.path (get now p.item.path) (at_and_under p.item.path before) p.item.path
              ∙ ap (λ b. cond b (get now p.item.path) (get (at_and_under p.item.path before) p.item.path))
              ((bytes_decides p.item.path p.item.path).1 refl)))
              ∙ makes p.place k p.item x (found order.TopDown p.item.path before now)
              (left order.TopDown p.item.path before now) p.at at p.is (get_here p.item.path before) d

pub can_step : (deed : Deed) (o : Order) (top turn : ℕ) (items : List Item) (fates : List Fate) (was now : Option Files) → turn < top
    → AreItems items → IfSome was (StandIn o items) → IfSome was (MakesDirs o deed items) → Ran deed o top turn items fates was now
    → IfSome now (CanStep o (level_at o top turn) items fates)
can_step deed o top turn items fates None None l ok stand makes r = tt
can_step deed o top turn items fates None (Some now) l ok stand makes r = absurd (false≢true (sym r.tells))
can_step deed o top turn items fates (Some was) None l ok stand makes r = tt
can_step deed o top turn items fates (Some was) (Some now) l ok stand makes r =
    step_files deed items fates ok r.len was now o _ _ _ (next_at o top turn l) stand makes r.sofar

both_ways : {P Q R : Type 0} → P ↔ Q → Q ↔ R → P ↔ R
both_ways a b = ((λ p. b.0 (a.0 p)), (λ r. a.1 (b.1 r)))

pub ran_more : (deed : Deed) (o : Order) (top turn : ℕ) (items : List Item) (old new : List Fate) (was now next : Option Files) → turn < top
    → AreItems items → TellsLevel o (level_at o top turn) items old new
    → IfSome now (λ a. IfSome next (OneLevel deed (level_at o top turn) items new a)) → is_some next ≡ is_some now →
    Ran deed o top turn items old was now → Ran deed o top (turn + 1) items new was next
ran_more deed o top turn items old new was now next l ok t one tells r = record {
  len = t.len ∙ r.len;
  told = λ k x f at has done. told k x f at has (done_after o _ _ _ (level_of x.path) (next_at o top turn l) done);
  sofar = both_told (Sofar deed o (mark_at o top turn) items old) (OneLevel deed (level_at o top turn) items new)
      (Sofar deed o (mark_at o top (turn + 1)) items new) was now next r.tells
      (λ a b c s w. level_more deed items new a b c o _ _ _ old (next_at o top turn l) (λ k x at. some_bytes x.path (ok.valid k x at))
      (λ k x at done. t.others k x at (λ e. not_here o _ _ _ (level_of x.path) (next_at o top turn l) done e)) s w)
      r.sofar one;
  tells = tells ∙ r.tells;
}
  where
    -- an item that is done, or is on the level, stands no deeper than it from the top down
    no_deeper : (o : Order) (m : ℕ) → (m ≡ level_at o top turn) ⊎ (is_level_done o (mark_at o top turn) m ≡ true) →
        (m ≤ level_at o top turn) ⊎ (o ≡ order.BottomUp)
    no_deeper order.BottomUp m h = inr refl
    no_deeper order.TopDown m (inl e) = inl (omega (arith, e))
    no_deeper order.TopDown m (inr d) = inl (let k = longer m turn d in omega (arith, k))

    told : (k : ℕ) (x : Item) (f : Fate) → slice_get items k ≡ Some x → slice_get new k ≡ Some f → (level_of x.path ≡ level_at o top turn)
        ⊎ (is_level_done o (mark_at o top turn) (level_of x.path) ≡ true) → (f ≡ fate.ParentFailed) ↔ FailsWith o items new x
    told k x f at has (inl lev) =
        both_ways (t.failed k x f at has lev)
        (fails_same o (level_at o top turn) items old new x (ok.valid k x at) (ok.no_root k x at)
        (no_deeper o (level_of x.path) (inl lev)) t)
    told k x f at has (inr done) =
        both_ways (r.told k x f at
        (sym (t.others k x at (λ e. not_here o _ _ _ (level_of x.path) (next_at o top turn l) done e)) ∙ has) done)
        (fails_same o (level_at o top turn) items old new x (ok.valid k x at) (ok.no_root k x at)
        (no_deeper o (level_of x.path) (inr done)) t)

pub ran_told : (deed : Deed) (o : Order) (top turn : ℕ) (items : List Item) (fates : List Fate) (was now : Option Files) → turn ≡ top
    → AllBelow top items → Ran deed o top turn items fates was now → ParentsFail o items fates
ran_told deed o top turn items fates was now e below r k x f at has =
    r.told k x f at has (subst (λ u. is_level_done o (mark_at o top u) (level_of x.path) ≡ true) (sym e)
    (at_last o top (level_of x.path) (below k x at)))

pub ran_acted : (deed : Deed) (o : Order) (top turn : ℕ) (items : List Item) (fates : List Fate) (was now : Option Files) → turn ≡ top
    → AllBelow top items → Ran deed o top turn items fates was now → IfSome was (λ before. IfSome now (Acted deed o items fates before))
ran_acted deed o top turn items fates was now e below r =
    both_told (λ a b. a ≡ b) (Sofar deed o (mark_at o top turn) items fates) (Acted deed o items fates) was was now refl
    (λ a b c s w. let v = subst (λ m. Sofar deed o (mark_at o top turn) items fates m c) (sym s) w in record {
      others = λ q off. v.pending q (λ k x at done. is_no_item items q k x off at);
      each = λ k x f at has. v.each k x f at has
          (subst (λ u. is_level_done o (mark_at o top u) (level_of x.path) ≡ true) (sym e) (at_last o top (level_of x.path) (below k x at)));
    })
    (same_told (λ a b. a ≡ b) was (λ a. refl)) r.sofar

pub ran_lost : (deed : Deed) (o : Order) (top turn level : ℕ) (items : List Item) (fates : List Fate) (was now next : Option Files)
    → Ran deed o top turn items fates was now → IfSome now (λ a. IfSome next (SameButLevel level items a))
    → IfSome was (λ before. IfSome next (SameButItems items before))
ran_lost deed o top turn level items fates was now next r s =
    both_told (Sofar deed o (mark_at o top turn) items fates) (SameButLevel level items) (SameButItems items) was now next r.tells
    (λ a b c v w q off. w q (λ k x at lev. is_no_item items q k x off at) ∙ v.pending q (λ k x at done. is_no_item items q k x off at)) r.sofar s

pub on_err : {T E : Type 0} (r : Result T E) (X : Type 0) → X → OnErr r X
on_err (Ok v) X x = tt
on_err (Err e) X x = x
