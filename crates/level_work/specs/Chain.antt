-- The maps between the levels. Our own.
use Rattle.std.specs.Prelude.{◌≡◌, ◌≢◌, ℕ, ◌+◌, ◌-◌, ◌<◌, Bool, false, ◌&&◌, not, List, nat_eq, nat_lt, nat_le, Some, slice_get}
use Rattle.std.specs.List.{list_any}
use Rattle.std.specs.FinMap.{get, entries, retain_keys}
use Rattle.std.specs.Cmp.Lexicographic.{pointwise}
use Rattle.path_text.specs.Path.{level_of}
use Rattle.outside.specs.Tree.{Files}
use Rattle.outside.specs.Laid.{put_all}
use Rattle.level_work.specs.Acts.{Deed, at_and_under}
use Rattle.level_work.specs.Levels.{Acted, AreItems}
use Rattle.level_work.specs.declared.items.Item.{Item}
use Rattle.level_work.specs.declared.items.Fate.{Fate}
use Rattle.level_work.specs.declared.items.Fate.TheVariants as fate
use Rattle.level_work.specs.declared.items.Order.{Order}
use Rattle.level_work.specs.declared.items.Order.TheVariants as order

-- all items are on the levels below this one
abbrev pub AllBelow : ℕ → List Item → Type 0
AllBelow top items = (k : ℕ) (x : Item) → slice_get items k ≡ Some x → level_of x.path < top

-- the number t before and after a turn, from the top down and from the bottom up
abbrev pub mark_at : Order → ℕ → ℕ → ℕ
mark_at order.TopDown top turn = turn
mark_at order.BottomUp top turn = top - turn

abbrev pub level_at : Order → ℕ → ℕ → ℕ
level_at order.TopDown top turn = turn
level_at order.BottomUp top turn = top - 1 - turn

-- whether the items of a level are done: from the top down those of the levels below t are, from the bottom up those from t on
abbrev pub is_level_done : Order → ℕ → ℕ → Bool
is_level_done order.TopDown t level = nat_lt level t
is_level_done order.BottomUp t level = nat_le t level

-- the work on one level
pub record OneLevel (deed : Deed) (level : ℕ) (items : List Item) (fates : List Fate) (old new : Files) : Type 0 where
  pub others : (q : List ℕ)
      → ((k : ℕ) (x : Item) → slice_get items k ≡ Some x → level_of x.path ≡ level → pointwise nat_eq q x.path ≡ false)
      → get new q ≡ get old q
  pub touched : (k : ℕ) (x : Item) (f : Fate) → slice_get items k ≡ Some x → slice_get fates k ≡ Some f → level_of x.path ≡ level
      → f ≢ fate.ParentFailed → deed x.path x.entry f (at_and_under x.path old) (at_and_under x.path new)
  pub untouched : (k : ℕ) (x : Item) (f : Fate) → slice_get items k ≡ Some x → slice_get fates k ≡ Some f → level_of x.path ≡ level
      → f ≡ fate.ParentFailed → get new x.path ≡ get old x.path

-- the path of an item whose level is done
abbrev pub is_done_path : Order → ℕ → List Item → List ℕ → Bool
is_done_path o t items q = list_any (λ item. pointwise nat_eq q item.path && is_level_done o t (level_of item.path)) items

-- the map once some levels are done: at the paths of their items as afterwards, at all others as before
unfoldable pub stage : Order → ℕ → List Item → Files → Files → Files
stage o t items before after = put_all (entries (retain_keys after (is_done_path o t items))) (retain_keys before (λ q. not (is_done_path o t items q)))

-- one map after each level: the first level starts from the map before, and the last of them is the map after. Each level does its
-- deeds from one to the next
pub record IsChain (deed : Deed) (o : Order) (top : ℕ) (items : List Item) (fates : List Fate) (before after : Files) : Type 0 where
  pub first : stage o (mark_at o top 0) items before after ≡ before
  pub last : stage o (mark_at o top top) items before after ≡ after
  pub steps : (turn : ℕ) → turn < top
      → OneLevel deed (level_at o top turn) items fates (stage o (mark_at o top turn) items before after)
      (stage o (mark_at o top (turn + 1)) items before after)

abbrev pub ActedIsChain : Deed → Type 0
ActedIsChain deed = (o : Order) (top : ℕ) (items : List Item) (fates : List Fate) (before after : Files) → AreItems items
    → AllBelow top items → Acted deed o items fates before after → IsChain deed o top items fates before after
