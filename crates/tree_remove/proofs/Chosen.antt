-- Chosen entries as items of work on levels.
use Rattle.tree_remove.proofs.Prelude.{◌≡◌, ◌≢◌, ℕ, zero, suc, Bool, true, false, cond, ◌||◌, ◌&&◌, List, [], ◌∷◌, Option, Some, None, refl, ap, ◌∙◌, sym}
use Rattle.tree_remove.proofs.Prelude.{is_some, is_none, slice_get, false≢true, recursion_from_All, IsTrue, get, All, AllByRecursion, option_map, Less}
use Rattle.tree_remove.proofs.Prelude.{path_cmp, refusal, parent_of, Files, Node, Body, dir, file, link, other, is_dir, is_dir_body, is_root, kind_of, Stat}
use Rattle.tree_remove.proofs.Prelude.{Entry, is_of, is_kind, paths, AreItems, StandIn, Item, item_of, items_of, AreChosen, AreThere, same_some, irreflexive}
use Rattle.std.specs.List.Sorted.{IsStrictlySortedBy}
use Rattle.outside.specs.Tree.{IsTree}
use Rattle.outside.specs.declared.trees.Kind.TheVariants as kind
use Rattle.level_work.specs.declared.items.Order.TheVariants as order
use Rattle.tree_remove.proofs.Removal.{Stands, not_none}

-- the entry of an item, of which this is so
pub record Told (P : Entry → Type 0) (x : Item) : Type 0 where
  pub entry : Entry
  pub is : x ≡ item_of entry
  pub so : P entry

told_at : (P : Entry → Type 0) (es : List Entry) → AllByRecursion P es → (k : ℕ) (x : Item) → slice_get (items_of es) k ≡ Some x → Told P x
told_at P [] h k x e = absurd (none k e)
  where
    none : (k : ℕ) → slice_get {X = Item} [] k ≡ Some x → ⊥
    none zero e = cc
    none (suc k) e = cc
told_at P (e ∷ es) h zero x at = record { entry = e; is = sym (same_some (item_of e) x at); so = h.0 }
told_at P (e ∷ es) h (suc k) x at = told_at P es h.1 k x at

pub told : (P : Entry → Type 0) (es : List Entry) → All P es → (k : ℕ) (x : Item) → slice_get (items_of es) k ≡ Some x → Told P x
told P es h = told_at P es (recursion_from_All P es h)

-- paths that ascend stand once each

above : (p : List ℕ) (es : List Entry) → AllByRecursion (λ q. path_cmp p q ≡ Less) (paths es) → AllByRecursion (λ e. path_cmp p e.path ≡ Less) es
above p [] h = tt
above p (e ∷ es) h = (h.0, above p es h.1)

distinct : (es : List Entry) → IsStrictlySortedBy path_cmp (paths es) → (j k : ℕ) (y x : Item) → slice_get (items_of es) j ≡ Some y →
    slice_get (items_of es) k ≡ Some x → y.path ≡ x.path → j ≡ k
unfolding IsStrictlySortedBy
distinct [] s zero k y x a b same = cc
distinct [] s (suc j) k y x a b same = cc
distinct (e ∷ es) s zero zero y x a b same = refl
distinct (e ∷ es) s zero (suc k) y x a b same =
    let t = told_at (λ f. path_cmp e.path f.path ≡ Less) es (above e.path es s.0) k x b in
    let is : t.entry.path ≡ e.path = ap (λ i. i.path) (sym t.is) ∙ sym same ∙ ap (λ i. i.path) (sym (same_some (item_of e) y a)) in
    absurd (irreflexive e.path (ap (path_cmp e.path) (sym is) ∙ t.so))
distinct (e ∷ es) s (suc j) zero y x a b same =
    let t = told_at (λ f. path_cmp e.path f.path ≡ Less) es (above e.path es s.0) j y a in
    let is : t.entry.path ≡ e.path = ap (λ i. i.path) (sym t.is) ∙ same ∙ ap (λ i. i.path) (sym (same_some (item_of e) x b)) in
    absurd (irreflexive e.path (ap (path_cmp e.path) (sym is) ∙ t.so))
distinct (e ∷ es) s (suc j) (suc k) y x a b same = ap suc (distinct es s.1 j k y x a b same)

pub are_items : (es : List Entry) → AreChosen es → All (λ e. refusal e.path ≡ None) es → AreItems (items_of es)
are_items es c valid = record {
  valid = λ k x at. let t = told (λ e. refusal e.path ≡ None) es valid k x at in ap (λ i. refusal i.path) t.is ∙ t.so;
  no_root = λ k x at. let t = told (λ e. is_root e.path ≡ false) es c.lower k x at in ap (λ i. is_root i.path) t.is ∙ t.so;
  distinct = distinct es c.ascend;
}

-- what is in a tree stands in a directory

parent_by : (root none fine here parent : Bool) → root ≡ false → none ≡ false → IsTrue (cond root here (none || (fine && parent))) → parent ≡ true
parent_by true none fine here parent r n h = absurd (false≢true (sym r))
parent_by false true fine here parent r n h = absurd (false≢true (sym n))
parent_by false false false here parent r n h = absurd (false≢true h)
parent_by false false true here parent r n h = h

in_dir : (files : Files) (p : List ℕ) → IsTree files → is_root p ≡ false → is_none (get files p) ≡ false → is_dir (get files (parent_of p)) ≡ true
unfolding IsTree
in_dir files p tree off some =
    parent_by (is_root p) (is_none (get files p)) (is_none (refusal p)) (is_dir (get files p)) (is_dir (get files (parent_of p))) off some
    (tree p)

-- what is there as what an entry with a stat tells

record SeenAs (found : Option Node) (stat : Option Stat) : Type 0 where
  there : is_some found ≡ true
  kind : is_dir found ≡ is_of kind.Dir stat

dir_kind : (b : Body) → is_dir_body b ≡ is_kind kind.Dir (kind_of b)
dir_kind (dir far) = refl
dir_kind (file bytes) = refl
dir_kind (link text) = refl
dir_kind other = refl

seen_as : (found : Option Node) (stat : Option Stat) → is_some stat ≡ true
    → option_map (λ n. kind_of n.body) found ≡ option_map (λ s. s.kind) stat → SeenAs found stat
seen_as found None s e = absurd (false≢true s)
seen_as None (Some stat) s e = cc
seen_as (Some n) (Some stat) s e = record { there = refl; kind = dir_kind n.body ∙ ap (is_kind kind.Dir) (same_some (kind_of n.body) stat.kind e) }

pub stands : (files : Files) (es : List Entry) → AreChosen es → All (λ e. refusal e.path ≡ None) es → AreThere es files → (k : ℕ) (x : Item) →
    slice_get (items_of es) k ≡ Some x → Stands files x
stands files es c valid there k x at =
    let v = told (λ e. refusal e.path ≡ None) es valid k x at in
    let s = told (λ e. is_some e.stat ≡ true) es c.stats k x at in
    let t = told (λ e. option_map (λ n. kind_of n.body) (get files e.path) ≡ option_map (λ stat. stat.kind) e.stat) es there k x at in
    let seen = seen_as (get files x.path) x.entry.stat (ap (λ i. is_some i.entry.stat) s.is ∙ s.so)
    (ap (λ i. option_map (λ n. kind_of n.body) (get files i.path)) t.is ∙ t.so ∙ ap (λ i. option_map (λ stat. stat.kind) i.entry.stat) (sym t.is)) in
    record { valid = ap (λ i. refusal i.path) v.is ∙ v.so; there = seen.there; kind = seen.kind }

pub stand_in : (files : Files) (es : List Entry) → AreChosen es → All (λ e. refusal e.path ≡ None) es → AreThere es files → IsTree files →
    StandIn order.BottomUp (items_of es) files
stand_in files es c valid there tree k x at =
    let l = told (λ e. is_root e.path ≡ false) es c.lower k x at in
    in_dir files x.path tree (ap (λ i. is_root i.path) l.is ∙ l.so) (not_none (get files x.path) (stands files es c valid there k x at).there)
