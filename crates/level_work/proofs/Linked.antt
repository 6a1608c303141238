-- The maps between the levels follow from the maps before and after.
use Rattle.level_work.proofs.Prelude.{◌≡◌, ◌≢◌, ◌⊎◌, inl, inr, ℕ, zero, suc, Bool, true, false, cond, not, ◌||◌, ◌&&◌, List, [], ◌∷◌, Option, Some, None, refl}
use Rattle.level_work.proofs.Prelude.{ap, ◌∙◌, sym, subst, arith, nat_eq, is_some, slice_get, false≢true, and_from, and_parts, get, entries, retain_keys}
use Rattle.level_work.proofs.Prelude.{get-entries, get-retain_keys, same_map, pointwise, bytes_decides, level_of, path_cmp_total, path_cmp_same, Files, Node}
use Rattle.level_work.proofs.Prelude.{get_put_all, Deed, at_and_under, with_at, Acted, AreItems, is_item, OneLevel, is_level_done, mark_at, is_done_path}
use Rattle.level_work.proofs.Prelude.{ActedIsChain, Item, Fate, Order, deeper, as_deep, some_bytes, longer, or_true}
use Rattle.level_work.specs.Chain.{stage}
use Rattle.level_work.specs.declared.items.Fate.TheVariants as fate
use Rattle.level_work.specs.declared.items.Order.TheVariants as order
use Rattle.level_work.proofs.Frames.{same_at}
use Rattle.level_work.proofs.Stages.{Next, with_here, other_level, le_true, true_le, done_after, not_here, still_done, now_done}
use Rattle.level_work.proofs.Running.{next_at, not_yet, at_last, is_no_item, no_item, standing}
use Rattle.level_work.proofs.Working.{same_some}

get_stage : (o : Order) (t : ℕ) (items : List Item) (before after : Files) (q : List ℕ)
    → get (stage o t items before after) q ≡ cond (is_done_path o t items q) (get after q) (get before q)
unfolding stage
get_stage o t items before after q =
    get_put_all (entries (retain_keys after test)) (retain_keys before (λ q. not (test q))) q
    ∙ ap (λ m. cond (is_some m) m (get (retain_keys before (λ q. not (test q))) q))
    (sym (get-entries (retain_keys after test) q) ∙ get-retain_keys after test q (λ x e. ap test (sym (path_cmp_same q x e))))
    ∙ ap (λ m. cond (is_some (cond (test q) (get after q) None)) (cond (test q) (get after q) None) m)
    (get-retain_keys before (λ q. not (test q)) q (λ x e. ap (λ y. not (test y)) (sym (path_cmp_same q x e))))
    ∙ by (test q) (get after q) (get before q)
  where
    test : List ℕ → Bool
    test = is_done_path o t items

    by : (b : Bool) (m r : Option Node) → cond (is_some (cond b m None)) (cond b m None) (cond (not b) r None) ≡ cond b m r
    by true None r = refl
    by true (Some n) r = refl
    by false m r = refl

-- an item's path is done where its level is
its_path : (o : Order) (t : ℕ) (items : List Item) (k : ℕ) (x : Item) → slice_get items k ≡ Some x → is_level_done o t (level_of x.path) ≡ true
    → is_done_path o t items x.path ≡ true
its_path o t [] k x at d = cc
its_path o t (y ∷ items) zero x at d =
    ap (λ b. b || is_done_path o t items x.path)
    (and_from (pointwise nat_eq x.path y.path) _ ((bytes_decides x.path y.path).1 (ap (λ (z : Item). z.path) (sym (same_some y x at))))
    (subst (λ (z : Item). is_level_done o t (level_of z.path) ≡ true) (sym (same_some y x at)) d))
its_path o t (y ∷ items) (suc k) x at d =
    ap (λ b. (pointwise nat_eq x.path y.path && is_level_done o t (level_of y.path)) || b) (its_path o t items k x at d) ∙ or_true _

-- where no done item has the path
no_path : (o : Order) (t : ℕ) (items : List Item) (q : List ℕ)
    → ((k : ℕ) (x : Item) → slice_get items k ≡ Some x → is_level_done o t (level_of x.path) ≡ true → pointwise nat_eq q x.path ≡ false)
    → is_done_path o t items q ≡ false
no_path o t [] q h = refl
no_path o t (y ∷ items) q h =
    ap (λ b. b || is_done_path o t items q) (by (pointwise nat_eq q y.path) (is_level_done o t (level_of y.path)) (h 0 y refl))
    ∙ no_path o t items q (λ k x at. h (suc k) x at)
  where
    by : (a b : Bool) → (b ≡ true → a ≡ false) → (a && b) ≡ false
    by true true f = absurd (false≢true (sym (f refl)))
    by true false f = refl
    by false b f = refl

record DonePath (o : Order) (t : ℕ) (items : List Item) (q : List ℕ) : Type 0 where
  place : ℕ
  item : Item
  at : slice_get items place ≡ Some item
  is : q ≡ item.path
  done : is_level_done o t (level_of item.path) ≡ true

a_path : (o : Order) (t : ℕ) (items : List Item) (q : List ℕ) → is_done_path o t items q ≡ true → DonePath o t items q
a_path o t [] q e = absurd (false≢true e)
a_path o t (y ∷ items) q e =
    elim (pointwise nat_eq q y.path && is_level_done o t (level_of y.path)) as
    (λ b. (pointwise nat_eq q y.path && is_level_done o t (level_of y.path)) ≡ b → (b || is_done_path o t items q) ≡ true
    → DonePath o t (y ∷ items) q) [
      | true ↦ λ is e. let p = and_parts (pointwise nat_eq q y.path) _ is in
          record { place = 0; item = y; at = refl; is = (bytes_decides q y.path).0 p.0; done = p.1 }
      | false ↦ λ _ e. let s = a_path o t items q e in record { place = suc s.place; item = s.item; at = s.at; is = s.is; done = s.done }
    ] refl e

module _ (deed : Deed) (items : List Item) (fates : List Fate) (before after : Files) (ok : AreItems items) where
  at_none : (o : Order) (t : ℕ) (q : List ℕ) → is_done_path o t items q ≡ false → get (stage o t items before after) q ≡ get before q
  at_none o t q off = get_stage o t items before after q ∙ ap (λ b. cond b (get after q) (get before q)) off

  at_done : (o : Order) (t : ℕ) (q : List ℕ) → is_done_path o t items q ≡ true → get (stage o t items before after) q ≡ get after q
  at_done o t q on = get_stage o t items before after q ∙ ap (λ b. cond b (get after q) (get before q)) on

  -- of the items of a level, and of what is not done, the map is the one before
  not_done : (o : Order) (t : ℕ) (q : List ℕ) → (is_level_done o t (level_of q) ≡ true → ⊥) → is_done_path o t items q ≡ false
  not_done o t q n = no_path o t items q (λ k x at d. other_level q x.path (λ e. n (subst (λ l. is_level_done o t l ≡ true) (sym e) d)))

  -- what is done, or was never touched, is as after
  as_after : (o : Order) (t : ℕ) (q : List ℕ) → is_level_done o t (level_of q) ≡ true → Acted deed o items fates before after
      → get (stage o t items before after) q ≡ get after q
  as_after o t q d acted = elim (is_item items q) as (λ b. is_item items q ≡ b → get (stage o t items before after) q ≡ get after q) [
    | true ↦ λ on. elim (is_done_path o t items q) as (λ b. is_done_path o t items q ≡ b → get (stage o t items before after) q ≡ get after q) [
      | true ↦ λ is. at_done o t q is
      | false ↦ λ off. absurd (false≢true (sym (no_item items q (λ k x at. never off k x at)) ∙ on))
    ] refl
    | false ↦ λ off. at_none o t q (no_path o t items q (λ k x at _. is_no_item items q k x off at)) ∙ sym (acted.others q off)
  ] refl
    where
      never : is_done_path o t items q ≡ false → (k : ℕ) (x : Item) → slice_get items k ≡ Some x → pointwise nat_eq q x.path ≡ false
      never off k x at = elim (pointwise nat_eq q x.path) as (λ b. pointwise nat_eq q x.path ≡ b → b ≡ false) [
        | true ↦ λ is. let e = (bytes_decides q x.path).0 is in
            absurd (false≢true (sym off ∙ ap (is_done_path o t items) e
            ∙ its_path o t items k x at (subst (λ p. is_level_done o t (level_of p) ≡ true) e d)))
        | false ↦ λ _. refl
      ] refl

  one_step : (o : Order) (t l t' : ℕ) → Next o t l t' → Acted deed o items fates before after
      → OneLevel deed l items fates (stage o t items before after) (stage o t' items before after)
  one_step o t l t' n acted = record {
    others = λ q off. get_stage o t' items before after q ∙ ap (λ b. cond b (get after q) (get before q)) (same_test q off)
        ∙ sym (get_stage o t items before after q);
    touched = λ k x f at has lev g. moved o t t' n acted k x f at has lev g;
    untouched = λ k x f at has lev g.
        at_done o t' x.path (its_path o t' items k x at (subst (λ m. is_level_done o t' m ≡ true) (sym lev) (now_done o t l t' n)))
        ∙ (acted.each k x f at has).untouched g
        ∙ sym (at_none o t x.path (not_done o t x.path (λ d. not_here o t l t' (level_of x.path) n d lev)));
  }
    where
      same_test : (q : List ℕ) → ((k : ℕ) (x : Item) → slice_get items k ≡ Some x → level_of x.path ≡ l → pointwise nat_eq q x.path ≡ false)
          → is_done_path o t' items q ≡ is_done_path o t items q
      same_test q off = elim (is_done_path o t items q) as (λ b. is_done_path o t items q ≡ b → is_done_path o t' items q ≡ b) [
        | true ↦ λ is. let p = a_path o t items q is in
            ap (is_done_path o t' items) p.is
            ∙ its_path o t' items p.place p.item p.at (still_done o t l t' (level_of p.item.path) n p.done)
        | false ↦ λ none. no_path o t' items q (λ k x at d. by k x at (done_after o t l t' (level_of x.path) n d) none)
      ] refl
        where
          by : (k : ℕ) (x : Item) → slice_get items k ≡ Some x → (level_of x.path ≡ l) ⊎ (is_level_done o t (level_of x.path) ≡ true)
              → is_done_path o t items q ≡ false → pointwise nat_eq q x.path ≡ false
          by k x at (inl lev) none = off k x at lev
          by k x at (inr d) none = elim (pointwise nat_eq q x.path) as (λ b. pointwise nat_eq q x.path ≡ b → b ≡ false) [
            | true ↦ λ is. absurd (false≢true (sym none ∙ ap (is_done_path o t items) ((bytes_decides q x.path).0 is) ∙ its_path o t items k x at d))
            | false ↦ λ _. refl
          ] refl

      moved : (o : Order) (t t' : ℕ) → Next o t l t' → Acted deed o items fates before after → (k : ℕ) (x : Item) (f : Fate)
          → slice_get items k ≡ Some x → slice_get fates k ≡ Some f → level_of x.path ≡ l → f ≢ fate.ParentFailed
          → deed x.path x.entry f (at_and_under x.path (stage o t items before after)) (at_and_under x.path (stage o t' items before after))
      moved order.TopDown t t' n acted k x f at has lev g =
          let some = some_bytes x.path (ok.valid k x at) in
          let was : at_and_under x.path (stage order.TopDown t items before after) ≡ at_and_under x.path before =
          same_at x.path before _ (λ q on.
          at_none order.TopDown t q
          (not_done order.TopDown t q (λ d. let a = as_deep q x.path some on in let b = longer (level_of q) t d in
          omega (arith, a, b, lev, n.0)))) in
          let here : get (stage order.TopDown t' items before after) x.path ≡ get after x.path =
          at_done order.TopDown t' x.path
          (its_path order.TopDown t' items k x at
          (subst (λ m. is_level_done order.TopDown t' m ≡ true) (sym lev) (now_done order.TopDown t l t' n))) in
          let is : with_at x.path (get (stage order.TopDown t' items before after) x.path) (at_and_under x.path before)
          ≡ at_and_under x.path (stage order.TopDown t' items before after) =
          with_here x.path before _
          (λ q on off. at_none order.TopDown t' q
          (not_done order.TopDown t' q (λ d. let a = deeper q x.path some on off in let b = longer (level_of q) t' d in
          omega (arith, a, b, lev, n.0, n.1)))) in
          subst (λ m. deed x.path x.entry f m (at_and_under x.path (stage order.TopDown t' items before after))) (sym was)
          (subst (deed x.path x.entry f (at_and_under x.path before))
          (sym (ap (λ m. with_at x.path m (at_and_under x.path before)) here) ∙ is) ((acted.each k x f at has).touched g))
      moved order.BottomUp t t' n acted k x f at has lev g =
          let some = some_bytes x.path (ok.valid k x at) in
          let is : at_and_under x.path (stage order.BottomUp t' items before after) ≡ at_and_under x.path after =
          same_at x.path after _ (λ q on.
          as_after order.BottomUp t' q
          (true_le t' (level_of q) (let a = as_deep q x.path some on in omega (arith, a, lev, n.1))) acted) in
          let here : get (stage order.BottomUp t items before after) x.path ≡ get before x.path =
          at_none order.BottomUp t x.path
          (not_done order.BottomUp t x.path (λ d. let b = le_true t (level_of x.path) d in omega (arith, b, lev, n.0))) in
          let was : with_at x.path (get (stage order.BottomUp t items before after) x.path) (at_and_under x.path after)
          ≡ at_and_under x.path (stage order.BottomUp t items before after) =
          with_here x.path after _
          (λ q on off. as_after order.BottomUp t q
          (true_le t (level_of q) (let a = deeper q x.path some on off in omega (arith, a, lev, n.0))) acted) in
          subst (deed x.path x.entry f (at_and_under x.path (stage order.BottomUp t items before after))) (sym is)
          (subst (λ m. deed x.path x.entry f m (at_and_under x.path after))
          (sym (ap (λ m. with_at x.path m (at_and_under x.path after)) here) ∙ was) ((acted.each k x f at has).touched g))

pub acted_is_chain : (deed : Deed) → ActedIsChain deed
acted_is_chain deed o top items fates before after ok below acted = record {
  first = same_map path_cmp_total path_cmp_same _ _
      (λ q. at_none deed items fates before after ok o (mark_at o top 0) q
      (no_path o (mark_at o top 0) items q (λ k x at d. absurd (false≢true (sym (not_yet o top (level_of x.path) (below k x at)) ∙ d)))));
  last = same_map path_cmp_total path_cmp_same _ _
      (λ q. elim (is_item items q) as (λ b. is_item items q ≡ b → get (stage o (mark_at o top top) items before after) q ≡ get after q) [
        | true ↦ λ on. let s = standing items q on in
            at_done deed items fates before after ok o (mark_at o top top) q
            (ap (is_done_path o (mark_at o top top) items) (sym s.is)
            ∙ its_path o (mark_at o top top) items s.place s.item s.at (at_last o top (level_of s.item.path) (below s.place s.item s.at)))
        | false ↦ λ off. at_none deed items fates before after ok o (mark_at o top top) q
            (no_path o (mark_at o top top) items q (λ k x at _. is_no_item items q k x off at)) ∙ sym (acted.others q off)
      ] refl);
  steps = λ turn l. one_step deed items fates before after ok o _ _ _ (next_at o top turn l) acted;
}
