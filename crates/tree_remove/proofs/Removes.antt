-- Work from the bottom up by removals removes what was chosen and nothing else.
use Rattle.tree_remove.proofs.Prelude.{◌≡◌, ◌≢◌, ℕ, zero, suc, ◌+◌, ◌<◌, ◌≤◌, ◌-◌, ◌^◌, Bool, true, false, ◌||◌, List, [], ◌∷◌, map, length, Option, Some, None}
use Rattle.tree_remove.proofs.Prelude.{IfSome, refl, ap, ◌∙◌, sym, subst, arith, nat_eq, slice_get, get_or, min, nat_lt, length-map, get_or-map, nat_tests}
use Rattle.tree_remove.proofs.Prelude.{sum-map, sum_by-cons, slice_get-get_or, firsts-zip, length-zip, get_or-zip, sum, All, zip, list_any, pointwise, refusal}
use Rattle.tree_remove.proofs.Prelude.{RoseBy, IsTreeIn, UnderDirectories, Files, IsTree, nothing_lent, Entry, paths, BlamedAll, NoneAtEnd, Acted, AreItems}
use Rattle.tree_remove.proofs.Prelude.{ParentsFail, SameButItems, StandIn, is_item, Item, Fate, Removal, items_of, AreChosen, AreThere, Removed, SameButChosen}
use Rattle.tree_remove.proofs.Prelude.{WasChosen}
use Rattle.level_work.specs.declared.items.Fate.TheVariants as fate
use Rattle.level_work.specs.declared.items.Order.TheVariants as order
use Rattle.tree_remove.proofs.Chosen.{are_items, stand_in, stands}
use Rattle.tree_remove.proofs.Removal.{AreUnderDirs, was_chosen}

-- the paths of the items are those of the entries
pub item_paths : (es : List Entry) → map (λ x. x.path) (items_of es) ≡ paths es
item_paths [] = refl
item_paths (e ∷ es) = ap (λ ps. e.path ∷ ps) (item_paths es)

item_is : (items : List Item) (q : List ℕ) → list_any (pointwise nat_eq q) (map (λ x. x.path) items) ≡ is_item items q
item_is [] q = refl
item_is (x ∷ items) q = ap (λ b. pointwise nat_eq q x.path || b) (item_is items q)

pub others : (es : List Entry) (before after : Files) → SameButItems (items_of es) before after → SameButChosen (paths es) before after
others es before after same q off = same q (sym (item_is (items_of es) q) ∙ ap (list_any (pointwise nat_eq q)) (item_paths es) ∙ off)

-- what `remove` knows once the work is done
pub record Work (es : List Entry) (fates : List Fate) : Type 0 where
  pub law : UnderDirectories
  pub chosen : AreChosen es
  pub valid : All (λ e. refusal e.path ≡ None) es
  pub len : length fates ≡ length (items_of es)
  pub parents : ParentsFail order.BottomUp (items_of es) fates

abbrev rows : List Entry → List Fate → List (List ℕ × Fate)
rows es fates = zip (map (λ x. x.path) (items_of es)) fates

under : UnderDirectories → (files : Files) → IsTree files → AreUnderDirs files
under law files tree q p valid u there = law files q p tree valid u there

each : (es : List Entry) (fates : List Fate) (before after : Files) → Work es fates → AreThere es before → IsTree after →
    Acted Removal order.BottomUp (items_of es) fates before after → All (λ row. WasChosen before after row.0 row.1) (rows es fates)
each es fates before after w there tree acted k d l =
    let items = items_of es in
    let here : k < length items = omega (arith, l, length-zip (map (λ (x : Item). x.path) items) fates, length-map items (λ (x : Item). x.path), w.len) in
    let some : k < length fates = omega (arith, here, w.len) in
    let path_here : k < length (map (λ (x : Item). x.path) items) = omega (arith, here, length-map items (λ (x : Item). x.path)) in
    let x = item_at items k here in
    let f = get_or fates k d.1 in
    let has = slice_get-get_or fates k d.1 some in
    let row : get_or (rows es fates) k d ≡ (x.0.path, f) =
    get_or-zip (map (λ (x : Item). x.path) items) fates k d path_here some
    ∙ ap (λ p. (p, f)) (get_or-map (λ (x : Item). x.path) items k x.0 d.0 here ∙ ap (λ y. y.path) x.2)
    in
    let named : f ≢ fate.ParentFailed = λ e. (w.parents k x.0 f x.1 has).0 e in
    let was = was_chosen before after x.0 (under w.law after tree) (stands before es w.chosen w.valid there k x.0 x.1) f named
    ((acted.each k x.0 f x.1 has).touched named) in
    subst (λ r. WasChosen before after r.0 r.1) (sym row) was
  where
    item_at : (items : List Item) (k : ℕ) → k < length items → (x : Item) × (slice_get items k ≡ Some x) × (get_or items k x ≡ x)
    item_at [] k l = absurd (omega (arith, l))
    item_at (x ∷ items) zero l = (x, refl, refl)
    item_at (x ∷ items) (suc k) l = item_at items k (omega (arith, l))

-- what on_levels told, of the items of the entries
pub record Levels (es : List Entry) (items : List Item) : Type 0 where
  pub law : UnderDirectories
  pub chosen : AreChosen es
  pub valid : All (λ e. refusal e.path ≡ None) es
  pub is : items ≡ items_of es

pub stands_in : (es : List Entry) (items : List Item) (t : Option Files) → Levels es items → IfSome t (AreThere es) → IfSome t (IsTreeIn nothing_lent) →
    IfSome t (StandIn order.BottomUp items)
stands_in es items None l there tree = tt
stands_in es items (Some files) l there tree =
    subst (λ xs. StandIn order.BottomUp xs files) (sym l.is) (stand_in files es l.chosen l.valid there tree)

pub fit : (es : List Entry) (items : List Item) → Levels es items → AreItems items
fit es items l = subst AreItems (sym l.is) (are_items es l.chosen l.valid)

pub rest_of : (es : List Entry) (items : List Item) (t t' : Option Files) → items ≡ items_of es → IfSome t (λ before. IfSome t' (SameButItems items before)) →
    IfSome t (λ before. IfSome t' (SameButChosen (paths es) before))
rest_of es items None t' is h = tt
rest_of es items (Some before) None is h = tt
rest_of es items (Some before) (Some after) is h = others es before after (subst (λ xs. SameButItems xs before after) is h)

pub acted_rest : (es : List Entry) (items : List Item) (fates : List Fate) (t t' : Option Files) → items ≡ items_of es →
    IfSome t (λ before. IfSome t' (Acted Removal order.BottomUp items fates before)) → IfSome t (λ before. IfSome t' (SameButChosen (paths es) before))
acted_rest es items fates None t' is h = tt
acted_rest es items fates (Some before) None is h = tt
acted_rest es items fates (Some before) (Some after) is h = others es before after (subst (λ xs. SameButItems xs before after) is h.others)

pub row_paths : (es : List Entry) (items : List Item) (fates : List Fate) → items ≡ items_of es → length fates ≡ length items →
    map (λ row. row.0) (zip (map (λ x. x.path) items) fates) ≡ paths es
row_paths es items fates is len =
    firsts-zip (map (λ (x : Item). x.path) items) fates (len ∙ sym (length-map items (λ (x : Item). x.path)))
    ∙ ap (map (λ (x : Item). x.path)) is ∙ item_paths es

pub removed : (es : List Entry) (items : List Item) (fates : List Fate) (t t' : Option Files) → Levels es items → length fates ≡ length items →
    ParentsFail order.BottomUp items fates → IfSome t (AreThere es) → IfSome t' (IsTreeIn nothing_lent) →
    IfSome t (λ before. IfSome t' (Acted Removal order.BottomUp items fates before))
    → IfSome t (λ before. IfSome t' (Removed (zip (map (λ x. x.path) items) fates) before))
removed es items fates None t' l len parents there tree acted = tt
removed es items fates (Some before) None l len parents there tree acted = tt
removed es items fates (Some before) (Some after) l len parents there tree acted =
    let w : Work es fates = record {
      law = l.law;
      chosen = l.chosen;
      valid = l.valid;
      len = len ∙ ap length l.is;
      parents = subst (λ xs. ParentsFail order.BottomUp xs fates) l.is parents;
    } in
    subst (λ xs. Removed (zip (map (λ x. x.path) xs) fates) before after) (sym l.is) (record {
      others = subst (λ ps. SameButChosen ps before after) (sym (row_paths es (items_of es) fates refl w.len))
          (others es before after (subst (λ xs. SameButItems xs before after) l.is acted.others));
      each = each es fates before after w there tree (subst (λ xs. Acted Removal order.BottomUp xs fates before after) l.is acted);
    })

-- actors that count nothing

zeros : {X : Type 0} (xs : List X) → sum (map (λ _. 0) xs) ≡ 0
zeros xs = sum-map (λ _. 0) xs ∙ by xs
  where
    by : {X : Type 0} (xs : List X) → Rattle.std.specs.List.sum_by (λ _. 0) xs ≡ 0
    by [] = refl
    by (x ∷ xs) = omega (arith, sum_by-cons (λ _. 0) x xs, by xs)

none_at_end : {X : Type 0} (xs : List X) → NoneAtEnd (map (λ _. 0) xs)
none_at_end [] i k e = absurd (none i e)
  where
    none : (i : ℕ) → slice_get {X = ℕ} [] i ≡ Some k → ⊥
    none zero e = cc
    none (suc i) e = cc
none_at_end (x ∷ xs) zero k e = let is : 0 ≡ k = cc in omega (arith, is)
none_at_end (x ∷ xs) (suc i) k e = none_at_end xs i k e

pub rose_by : {X : Type 0} (xs ys : List X) (n m g g' : ℕ) → g ≤ g' → BlamedAll n g (map (λ _. 0) xs) g' (map (λ _. 0) ys) → n ≡ m → RoseBy m g g'
rose_by xs ys n m g g' kept b same = record { kept = kept; rose = by (nat_lt g' (2 ^ 64 - 1)) refl }
  where
    less : (i j : ℕ) → nat_lt i j ≡ true → i < j
    less i j e = grind (arith, nat_tests)

    more : (i j : ℕ) → nat_lt i j ≡ false → j ≤ i
    more i j e = grind (arith, nat_tests)

    by : (c : Bool) → nat_lt g' (2 ^ 64 - 1) ≡ c → min (g + m) (2 ^ 64 - 1) ≤ g'
    by true e = let h = b.rose (less g' (2 ^ 64 - 1) e) (none_at_end ys) in omega (arith, h, zeros xs, zeros ys, same)
    by false e = let h = more g' (2 ^ 64 - 1) e in omega (arith, h)
