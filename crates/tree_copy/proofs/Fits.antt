-- The items of a copy are fit for work from the top down.
use Rattle.tree_copy.proofs.Prelude.{◌≡◌, inl, inr, ℕ, zero, suc, ◌<◌, ◌≤◌, Bool, true, false, cond, ◌||◌, List, [], ◌∷◌, map, length, Option, Some, None}
use Rattle.tree_copy.proofs.Prelude.{IfSome, refl, ap, ◌∙◌, sym, subst, arith, nat_eq, is_some, slice_get, false≢true, or_parts, or_from, nat_tests, nat_le}
use Rattle.tree_copy.proofs.Prelude.{get, All, AllByRecursion, filter, list_any, option_map, pointwise, bytes_decides, Less, path_cmp, is_under, refusal}
use Rattle.tree_copy.proofs.Prelude.{parent_of, one_way, UnderDirectories, Files, Node, Body, dir, file, link, other, IsTree, is_dir, is_root, stat_of}
use Rattle.tree_copy.proofs.Prelude.{empty_dir, Stat, parent_under, under_longer, Entry, paths, MakesDirs, AreItems, StandIn, is_item, Item, Pair, CanCopy}
use Rattle.tree_copy.proofs.Prelude.{FitsTree, is_target, target_of, treated, CopyKind, CopyOne, CopyTold, MakeDir, IsPair, has_room, item_of, items_of}
use Rattle.tree_copy.proofs.Prelude.{placed_of, same_some}
use Rattle.outside.specs.Tree.{kind_of}
use Rattle.std.specs.List.Sorted.{IsStrictlySortedBy}
use Rattle.outside.specs.declared.trees.Kind.TheVariants as kind
use Rattle.level_work.specs.declared.items.Fate.TheVariants as fate
use Rattle.level_work.specs.declared.items.Order.TheVariants as order
use Rattle.tree_copy.proofs.Ends.{Fine, Goes, all_at, goes, no_root, one_path, under_kept}
use Rattle.tree_copy.proofs.Puts.{put_here}

-- what is known of the entries and of the pairs
pub record Known (list : List Entry) (pairs : List Pair) : Type 0 where
  pub can : CanCopy list pairs
  pub valid : All (λ e. refusal e.path ≡ None) list
  pub ends : All IsPair pairs
  pub paths : All (λ x. refusal x.path ≡ None) (items_of pairs list)

pub fine : (list : List Entry) (pairs : List Pair) → Known list pairs → Fine pairs
fine list pairs k = record { apart = k.can.apart; valid = k.ends }

-- where the entry of an item stands

pub record Kept {X : Type 0} (p : X → Bool) (xs : List X) (x : X) : Type 0 where
  pub place : ℕ
  pub at : slice_get xs place ≡ Some x
  pub so : p x ≡ true

pub kept_at : {X : Type 0} (p : X → Bool) (xs : List X) (k : ℕ) (x : X) → slice_get (filter p xs) k ≡ Some x → Kept p xs x
kept_at p [] zero x e = cc
kept_at p [] (suc k) x e = cc
kept_at p (y ∷ xs) k x e = by (p y) refl (λ k. kept_at p xs k x) k e
  where
    later : Kept p xs x → Kept p (y ∷ xs) x
    later h = record { place = suc h.place; at = h.at; so = h.so }

    by : (b : Bool) → p y ≡ b → ((k : ℕ) → slice_get (filter p xs) k ≡ Some x → Kept p xs x) → (k : ℕ) → slice_get (cond b (y ∷ filter p xs) (filter p xs))
        k ≡ Some x → Kept p (y ∷ xs) x
    by true is rest zero e = record { place = 0; at = e; so = ap p (sym (same_some y x e)) ∙ is }
    by true is rest (suc k) e = later (rest k e)
    by false is rest k e = later (rest k e)

pub map_at : {X Y : Type 0} (f : X → Y) (xs : List X) (k : ℕ) (y : Y) → slice_get (map f xs) k ≡ Some y → (x : X) × (slice_get xs k ≡ Some x) × (f x ≡ y)
map_at f [] zero y e = cc
map_at f [] (suc k) y e = cc
map_at f (x ∷ xs) zero y e = (x, refl, same_some (f x) y e)
map_at f (x ∷ xs) (suc k) y e = map_at f xs k y e

pub record OfEntry (list : List Entry) (pairs : List Pair) (k : ℕ) (x : Item) : Type 0 where
  pub entry : Entry
  pub is : item_of pairs entry ≡ x
  pub at : slice_get (placed_of pairs list) k ≡ Some entry
  pub treated_at : Kept (has_room pairs) (treated list) entry
  pub list_at : Kept (λ e. is_some e.stat) list entry

pub of_entry : (list : List Entry) (pairs : List Pair) (k : ℕ) (x : Item) → slice_get (items_of pairs list) k ≡ Some x → OfEntry list pairs k x
of_entry list pairs k x e =
    let m = map_at (item_of pairs) (placed_of pairs list) k x e in
    let t = kept_at (has_room pairs) (treated list) k m.0 m.1 in
    record { entry = m.0; is = m.2; at = m.1; treated_at = t; list_at = kept_at (λ (e : Entry). is_some e.stat) list t.place m.0 t.at }

-- ascending entries stand once each

all_kept : {X : Type 0} (P : X → Type 0) (p : X → Bool) (xs : List X) → AllByRecursion P xs → AllByRecursion P (filter p xs)
all_kept P p [] h = tt
all_kept P p (x ∷ xs) h = elim (p x) as (λ b. AllByRecursion P (cond b (x ∷ filter p xs) (filter p xs)))
    [ true ↦ (h.0, all_kept P p xs h.1) | false ↦ all_kept P p xs h.1 ]

abbrev pub Ascend : List Entry → Type 0
Ascend [] = Unit {0}
Ascend (e ∷ es) = AllByRecursion (λ f. path_cmp e.path f.path ≡ Less) es × Ascend es

pub above : (p : List ℕ) (es : List Entry) → AllByRecursion (λ q. path_cmp p q ≡ Less) (paths es) → AllByRecursion (λ e. path_cmp p e.path ≡ Less) es
above p [] h = tt
above p (e ∷ es) h = (h.0, above p es h.1)

pub ascends : (es : List Entry) → IsStrictlySortedBy path_cmp (paths es) → Ascend es
unfolding IsStrictlySortedBy
ascends [] s = tt
ascends (e ∷ es) s = (above e.path es s.0, ascends es s.1)

ascend_kept : (p : Entry → Bool) (es : List Entry) → Ascend es → Ascend (filter p es)
ascend_kept p [] s = tt
ascend_kept p (e ∷ es) s = elim (p e) as (λ b. Ascend (cond b (e ∷ filter p es) (filter p es))) [
  | true ↦ (all_kept (λ f. path_cmp e.path f.path ≡ Less) p es s.0, ascend_kept p es s.1)
  | false ↦ ascend_kept p es s.1
]

lower_at : (e : Entry) (es : List Entry) → AllByRecursion (λ f. path_cmp e.path f.path ≡ Less) es → (k : ℕ) (f : Entry) → slice_get es k ≡ Some f →
    e.path ≡ f.path → ⊥
lower_at e es h k f at same =
    let l = Rattle.tree_copy.proofs.Ends.at_of (λ f. path_cmp e.path f.path ≡ Less) es h k f at in
    let m : path_cmp e.path e.path ≡ Less = ap (path_cmp e.path) same ∙ l in
    one_way e.path e.path m m

pub once : (es : List Entry) → Ascend es → (j k : ℕ) (e f : Entry) → slice_get es j ≡ Some e → slice_get es k ≡ Some f → e.path ≡ f.path → j ≡ k
once [] s zero k e f a b same = cc
once [] s (suc j) k e f a b same = cc
once (x ∷ es) s zero zero e f a b same = refl
once (x ∷ es) s zero (suc k) e f a b same = absurd (lower_at x es s.0 k f b (ap (λ y. y.path) (same_some x e a) ∙ same))
once (x ∷ es) s (suc j) zero e f a b same = absurd (lower_at x es s.0 j e a (ap (λ y. y.path) (same_some x f b) ∙ sym same))
once (x ∷ es) s (suc j) (suc k) e f a b same = ap suc (once es s.1 j k e f a b same)

-- a path that is no longer than a path may be is a target exactly where it is an item's path

fits_in : (n : ℕ) → nat_le n 4095 ≡ true → n ≤ 4095
fits_in n e = grind (arith, nat_tests)

too_long : (n : ℕ) → nat_le n 4095 ≡ false → 4095 < n
too_long n e = grind (arith, nat_tests)

pub room_of : (pairs : List Pair) (e : Entry) → has_room pairs e ≡ true → length (target_of pairs e.path) ≤ 4095
room_of pairs e h = fits_in (length (target_of pairs e.path)) h

pub no_room_of : (pairs : List Pair) (e : Entry) → has_room pairs e ≡ false → 4095 < length (target_of pairs e.path)
no_room_of pairs e h = too_long (length (target_of pairs e.path)) h

-- what has another length is another path
pub other_path : (p q : List ℕ) → (p ≡ q → ⊥) → pointwise nat_eq p q ≡ false
other_path p q h = by (pointwise nat_eq p q) refl
  where
    by : (b : Bool) → pointwise nat_eq p q ≡ b → b ≡ false
    by false e = refl
    by true e = absurd (h ((bytes_decides p q).0 e))

pub targets_are : (pairs : List Pair) (es : List Entry) (q : List ℕ) → length q ≤ 4095 →
    list_any (pointwise nat_eq q) (map (λ e. target_of pairs e.path) es) ≡ is_item (map (item_of pairs) (filter (has_room pairs) es)) q
targets_are pairs [] q l = refl
targets_are pairs (e ∷ es) q l =
    elim (has_room pairs e) as (λ b. has_room pairs e ≡ b →
    (pointwise nat_eq q (target_of pairs e.path) || list_any (pointwise nat_eq q) (map (λ (e : Entry). target_of pairs e.path) es))
    ≡ is_item (map (item_of pairs) (cond b (e ∷ filter (has_room pairs) es) (filter (has_room pairs) es))) q) [
      | true ↦ λ r. ap (λ b. pointwise nat_eq q (target_of pairs e.path) || b) (targets_are pairs es q l)
      | false ↦ λ r. ap (λ b. b || list_any (pointwise nat_eq q) (map (λ (e : Entry). target_of pairs e.path) es))
          (other_path q (target_of pairs e.path) (λ is. absurd (omega (arith, l, no_room_of pairs e r, ap length is)))) ∙ targets_are pairs es q l
    ] refl

-- a path that is no target is no item's
pub no_item : (pairs : List Pair) (es : List Entry) (q : List ℕ) → list_any (pointwise nat_eq q) (map (λ e. target_of pairs e.path) es) ≡ false →
    is_item (map (item_of pairs) (filter (has_room pairs) es)) q ≡ false
no_item pairs [] q h = refl
no_item pairs (e ∷ es) q h =
    let n = or_parts (pointwise nat_eq q (target_of pairs e.path)) (list_any (pointwise nat_eq q) (map (λ (e : Entry). target_of pairs e.path) es)) h in
    elim (has_room pairs e) as (λ b. is_item (map (item_of pairs) (cond b (e ∷ filter (has_room pairs) es) (filter (has_room pairs) es))) q ≡ false) [
      | true ↦ or_from (pointwise nat_eq q (target_of pairs e.path)) (is_item (map (item_of pairs) (filter (has_room pairs) es)) q) n.0
          (no_item pairs es q n.1)
      | false ↦ no_item pairs es q n.1
    ]

-- nor is one that is too long
pub far_no_item : (pairs : List Pair) (es : List Entry) (q : List ℕ) → 4095 < length q → is_item (map (item_of pairs) (filter (has_room pairs) es)) q ≡ false
far_no_item pairs [] q l = refl
far_no_item pairs (e ∷ es) q l =
    elim (has_room pairs e) as (λ b. has_room pairs e ≡ b →
    is_item (map (item_of pairs) (cond b (e ∷ filter (has_room pairs) es) (filter (has_room pairs) es))) q ≡ false) [
      | true ↦ λ r. or_from (pointwise nat_eq q (target_of pairs e.path)) (is_item (map (item_of pairs) (filter (has_room pairs) es)) q)
          (other_path q (target_of pairs e.path) (λ is. absurd (omega (arith, l, room_of pairs e r, ap length is)))) (far_no_item pairs es q l)
      | false ↦ λ r. far_no_item pairs es q l
    ] refl

-- the items

module _ (list : List Entry) (pairs : List Pair) (k : Known list pairs) where
  pub goes_with : (i : ℕ) (e : Entry) → slice_get list i ≡ Some e → Goes pairs e.path
  goes_with i e at = goes pairs e.path
      (all_at (λ (e : Entry). list_any (λ (pair : Pair). Rattle.path_text.specs.Order.is_within e.path pair.source) pairs ≡ true) list k.can.in_source i e
      at)

  pub path_valid : (i : ℕ) (e : Entry) → slice_get list i ≡ Some e → refusal e.path ≡ None
  path_valid i e at = all_at (λ (e : Entry). refusal e.path ≡ None) list k.valid i e at

  item_valid : (i : ℕ) (x : Item) → slice_get (items_of pairs list) i ≡ Some x → refusal x.path ≡ None
  item_valid i x at = all_at (λ (x : Item). refusal x.path ≡ None) (items_of pairs list) k.paths i x at

  item_low : (i : ℕ) (x : Item) → slice_get (items_of pairs list) i ≡ Some x → is_root x.path ≡ false
  item_low i x at =
      let o = of_entry list pairs i x at in
      let p = o.list_at in
      subst (λ (y : Item). is_root y.path ≡ false) o.is (no_root pairs (fine list pairs k) o.entry.path (goes_with p.place o.entry p.at)
      (path_valid p.place o.entry p.at))

  pub are_items : AreItems (items_of pairs list)
  are_items = record {
    valid = item_valid;
    no_root = item_low;
    distinct = λ i j y x a b same.
        let o = of_entry list pairs i y a in
        let n = of_entry list pairs j x b in
        let p = o.list_at in
        let q = n.list_at in
        let targets : target_of pairs o.entry.path ≡ target_of pairs n.entry.path = ap (λ z. z.path) o.is ∙ same ∙ ap (λ z. z.path) (sym n.is) in
        once (placed_of pairs list) (ascend_kept (has_room pairs) (treated list) (ascend_kept (λ e. is_some e.stat) list (ascends list k.can.ascend))) i j
        o.entry n.entry o.at n.at
        (one_path pairs (fine list pairs k) o.entry.path n.entry.path (goes_with p.place o.entry p.at) (goes_with q.place n.entry q.at)
        (path_valid p.place o.entry p.at) (path_valid q.place n.entry q.at) targets);
  }

  over : (i : ℕ) (x : Item) → slice_get (items_of pairs list) i ≡ Some x → is_under x.path (parent_of x.path) ≡ true
  over i x at = parent_under x.path (item_valid i x at) (item_low i x at)

  -- the parent of an item is short too
  pub parent_short : (i : ℕ) (x : Item) → slice_get (items_of pairs list) i ≡ Some x → length (parent_of x.path) ≤ 4095
  parent_short i x at =
      let o = of_entry list pairs i x at in
      omega (arith, under_longer x.path (parent_of x.path) (over i x at), room_of pairs o.entry o.treated_at.so, ap (λ (y : Item). length y.path) o.is)

  pub stand_in : (before : Files) → FitsTree list pairs before → StandIn order.TopDown (items_of pairs list) before
  stand_in before f i x at off =
      let o = of_entry list pairs i x at in
      let t = o.treated_at in
      let here = all_at (λ (e : Entry). is_target pairs list (parent_of (target_of pairs e.path)) ≡ false →
      is_dir (get before (parent_of (target_of pairs e.path))) ≡ true) (treated list) f.stand t.place o.entry t.at in
      let there = subst (λ (y : Item). is_target pairs list (parent_of y.path) ≡ false → is_dir (get before (parent_of y.path)) ≡ true) o.is here in
      there (targets_are pairs (treated list) (parent_of x.path) (parent_short i x at) ∙ off)

-- a directory that an entry tells

dir_body : (b : Body) (far : Bool) → is_dir (Some (record { body = b; mtime = None })) ≡ true → kind_of b ≡ kind.Dir
dir_body (dir n) far e = refl
dir_body (file bytes) far e = absurd (false≢true e)
dir_body (link text) far e = absurd (false≢true e)
dir_body other far e = absurd (false≢true e)

pub told_dir : (found : Option Node) (told : Option Stat) → is_some told ≡ true → IfSome told (λ stat. option_map stat_of found ≡ Some stat) →
    is_dir found ≡ true →
    (stat : Stat) × (told ≡ Some stat) × (stat.kind ≡ kind.Dir)
told_dir found None s t d = absurd (false≢true s)
told_dir None (Some stat) s t d = absurd (false≢true d)
told_dir (Some n) (Some stat) s t d = (stat, refl, ap (λ (x : Stat). x.kind) (sym (same_some (stat_of n) stat t)) ∙ dir_body n.body true d)

pub told_there : (found : Option Node) (told : Option Stat) → is_some told ≡ true → IfSome told (λ stat. option_map stat_of found ≡ Some stat) →
    is_some found ≡ true
told_there found None s t = absurd (false≢true s)
told_there None (Some stat) s t = cc
told_there (Some n) (Some stat) s t = refl

made : (before : Files) (p : List ℕ) (e : Entry) (b a : Files) → get b p ≡ get before p → MakeDir before p e fate.Done b a → is_dir (get a p) ≡ true
made before p e b a same (inl d) = ap (λ m. is_dir (get m p)) d.1 ∙ ap is_dir (put_here p empty_dir b)
made before p e b a same (inr d) = ap (λ m. is_dir (get m p)) d.2 ∙ ap is_dir same ∙ d.1

pub makes_dirs : (list : List Entry) (pairs : List Pair) → Known list pairs → UnderDirectories → (before : Files) → IsTree before → FitsTree list pairs before →
    MakesDirs order.TopDown (CopyOne before) (items_of pairs list) before
makes_dirs list pairs k law before tree f i j y x b a at_y at_x parent same deed =
    let o = of_entry list pairs i y at_y in
    let n = of_entry list pairs j x at_x in
    let p = o.list_at in
    let q = n.list_at in
    let targets : is_under (target_of pairs n.entry.path) (target_of pairs o.entry.path) ≡ true =
    subst (λ (z : Item). is_under z.path (target_of pairs o.entry.path) ≡ true) (sym n.is)
    (subst (λ t. is_under x.path t ≡ true) (sym parent ∙ ap (λ z. z.path) (sym o.is)) (over list pairs k j x at_x))
    in
    let under = under_kept pairs (fine list pairs k) n.entry.path o.entry.path (goes_with list pairs k q.place n.entry q.at)
    (goes_with list pairs k p.place o.entry p.at)
    (path_valid list pairs k q.place n.entry q.at) (path_valid list pairs k p.place o.entry p.at) targets
    in
    let told = all_at (λ (e : Entry). IfSome e.stat (λ stat. option_map stat_of (get before e.path) ≡ Some stat)) list f.told in
    let there = told_there (get before n.entry.path) n.entry.stat q.so (told q.place n.entry q.at) in
    let is_a_dir = law before n.entry.path o.entry.path tree (path_valid list pairs k p.place o.entry p.at) under there in
    let s = told_dir (get before o.entry.path) o.entry.stat p.so (told p.place o.entry p.at) is_a_dir in
    let entry : y.entry.stat ≡ Some s.0 = ap (λ z. z.entry.stat) (sym o.is) ∙ s.1 in
    made before y.path y.entry b a same
    (subst (λ kind. CopyKind kind before y.path y.entry fate.Done b a) s.2 (subst (λ stat. CopyTold stat before y.path y.entry fate.Done b a) entry deed))
