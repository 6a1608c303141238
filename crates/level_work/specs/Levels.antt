-- Work on items level by level: the nodes that each item finds and leaves, the items that are not touched, and the map after all.
-- Our own.
use Rattle.std.specs.Prelude.{◌≡◌, ◌≢◌, ◌↔◌, ℕ, Bool, true, false, List, nat_eq, Option, Some, None, slice_get}
use Rattle.std.specs.List.{list_any}
use Rattle.std.specs.FinMap.{get, insert, remove}
use Rattle.std.specs.Cmp.Lexicographic.{pointwise}
use Rattle.path_text.specs.Path.{parent_of, refusal}
use Rattle.outside.specs.Tree.{Files, Node, is_dir, is_root}
use Rattle.level_work.specs.Acts.{Deed, at_and_under}
use Rattle.level_work.specs.declared.items.Item.{Item}
use Rattle.level_work.specs.declared.items.Fate.{Fate}
use Rattle.level_work.specs.declared.items.Fate.TheVariants as fate
use Rattle.level_work.specs.declared.items.Order.{Order}
use Rattle.level_work.specs.declared.items.Order.TheVariants as order

-- paths other than `/`, each once
pub record AreItems (items : List Item) : Type 0 where
  pub valid : (k : ℕ) (x : Item) → slice_get items k ≡ Some x → refusal x.path ≡ None
  pub no_root : (k : ℕ) (x : Item) → slice_get items k ≡ Some x → is_root x.path ≡ false
  pub distinct : (j k : ℕ) (y x : Item) → slice_get items j ≡ Some y → slice_get items k ≡ Some x → y.path ≡ x.path → j ≡ k

abbrev pub is_item : List Item → List ℕ → Bool
is_item items q = list_any (λ item. pointwise nat_eq q item.path) items

-- where the items are: in a directory, and from the top down it may also be another item
abbrev pub StandIn : Order → List Item → Files → Type 0
StandIn order.TopDown items files = (k : ℕ) (x : Item) → slice_get items k ≡ Some x → is_item items (parent_of x.path) ≡ false
    → is_dir (get files (parent_of x.path)) ≡ true
StandIn order.BottomUp items files = (k : ℕ) (x : Item) → slice_get items k ≡ Some x → is_dir (get files (parent_of x.path)) ≡ true

-- a map with this at one path, a node or none
abbrev pub with_at : List ℕ → Option Node → Files → Files
with_at path None files = remove files path
with_at path (Some node) files = insert files path node

-- The nodes at and under an item's path as its level begins, and those that it leaves there, by the maps before and after all
-- levels. From the top down nothing under the path was touched yet. From the bottom up all under it was.
abbrev pub found : Order → List ℕ → Files → Files → Files
found order.TopDown path before after = at_and_under path before
found order.BottomUp path before after = with_at path (get before path) (at_and_under path after)

abbrev pub left : Order → List ℕ → Files → Files → Files
left order.TopDown path before after = with_at path (get after path) (at_and_under path before)
left order.BottomUp path before after = at_and_under path after

-- an item with its fate. One whose parent failed was not touched
pub record HasFate (deed : Deed) (o : Order) (before after : Files) (item : Item) (f : Fate) : Type 0 where
  pub touched : f ≢ fate.ParentFailed → deed item.path item.entry f (found o item.path before after) (left o item.path before after)
  pub untouched : f ≡ fate.ParentFailed → get after item.path ≡ get before item.path

-- every path that is not an item is as before
abbrev pub SameButItems : List Item → Files → Files → Type 0
SameButItems items before after = (q : List ℕ) → is_item items q ≡ false → get after q ≡ get before q

-- all levels: each path that is not an item is as before, and each item has its fate
pub record Acted (deed : Deed) (o : Order) (items : List Item) (fates : List Fate) (before after : Files) : Type 0 where
  pub others : SameButItems items before after
  pub each : (k : ℕ) (item : Item) (f : Fate) → slice_get items k ≡ Some item → slice_get fates k ≡ Some f → HasFate deed o before after item f

-- an item is under another one that did not come to `Done`
pub record HasFailedParent (items : List Item) (fates : List Fate) (x : Item) : Type 0 where
  pub place : ℕ
  pub item : Item
  pub fate_of : Fate
  pub at : slice_get items place ≡ Some item
  pub has : slice_get fates place ≡ Some fate_of
  pub is_parent : item.path ≡ parent_of x.path
  pub not_done : fate_of ≢ fate.Done

abbrev pub FailsWith : Order → List Item → List Fate → Item → Type 0
FailsWith order.TopDown items fates x = HasFailedParent items fates x
FailsWith order.BottomUp items fates x = ⊥

-- exactly the items under one that did not come to `Done` have the fate `ParentFailed`
abbrev pub ParentsFail : Order → List Item → List Fate → Type 0
ParentsFail o items fates = (k : ℕ) (x : Item) (f : Fate) → slice_get items k ≡ Some x → slice_get fates k ≡ Some f
    → (f ≡ fate.ParentFailed) ↔ FailsWith o items fates x
