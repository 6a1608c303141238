-- Deeds at one path. Our own.
use Rattle.std.specs.Prelude.{⊤, ◌≡◌, ℕ, true, List, Some, IfOk, slice_get, Result}
use Rattle.std.specs.FinMap.{get, retain_keys}
use Rattle.path_text.specs.Order.{is_within}
use Rattle.path_text.specs.Path.{parent_of}
use Rattle.path_text.specs.declared.errors.OutOfMemory.{OutOfMemory}
use Rattle.outside.specs.Tree.{Files, is_dir}
use Rattle.outside.specs.Writes.{SameBut}
use Rattle.entry_pages.specs.declared.entries.Entry.{Entry}
use Rattle.level_work.specs.declared.items.Item.{Item}
use Rattle.level_work.specs.declared.items.Fate.{Fate}
use Rattle.level_work.specs.declared.items.Fate.TheVariants as fate
use Rattle.level_work.specs.declared.items.Order.{Order}
use Rattle.level_work.specs.declared.items.Order.TheVariants as order

-- a deed at a path with an entry: a relation of a fate and of the nodes at and under the path, before and after
abbrev pub Deed : Type 1
Deed = List ℕ → Entry → Fate → Files → Files → Type 0

abbrev pub at_and_under : List ℕ → Files → Files
at_and_under path files = retain_keys files (λ q. is_within q path)

-- a deed at a path: it changes that path alone, and its answer is by the relation
pub record IsDone (deed : Deed) (path : List ℕ) (entry : Entry) (result : Result Fate OutOfMemory) (before after : Files) : Type 0 where
  pub others : SameBut path before after
  pub answers : IfOk result (λ f. deed path entry f (at_and_under path before) (at_and_under path after))

-- all of these are the same
abbrev pub Alike : {D : Type 0} → List D → Type 0
Alike shown = (i j : ℕ) (d e : _) → slice_get shown i ≡ Some d → slice_get shown j ≡ Some e → d ≡ e

-- all of these are d
abbrev pub AllShow : {D : Type 0} → D → List D → Type 0
AllShow d shown = (i : ℕ) (e : _) → slice_get shown i ≡ Some e → e ≡ d

-- From the top down an item that holds others comes to `Done` only if it is a directory then. This is asked of nodes that are as
-- they were before the call. For a node that an act keeps may be a directory for that reason alone
abbrev pub MakesDirs : Order → Deed → List Item → Files → Type 0
MakesDirs order.TopDown deed items before = (j k : ℕ) (y x : Item) (b a : Files) → slice_get items j ≡ Some y → slice_get items k ≡ Some x →
    y.path ≡ parent_of x.path → get b y.path ≡ get before y.path → deed y.path y.entry fate.Done b a → is_dir (get a y.path) ≡ true
MakesDirs order.BottomUp deed items before = ⊤
