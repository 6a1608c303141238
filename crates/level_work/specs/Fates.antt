-- Which actor an item goes to, and which fates it may come to there. This also holds over files that show no tree. Our own.
use Rattle.std.specs.Prelude.{◌≡◌, ◌≢◌, ℕ, ◌%◌, Bool, List, length, nat_eq, take, Some, slice_get}
use Rattle.std.specs.List.{count_by}
use Rattle.path_text.specs.Path.{level_of}
use Rattle.entry_pages.specs.declared.entries.Entry.{Entry}
use Rattle.level_work.specs.declared.items.Item.{Item}
use Rattle.level_work.specs.declared.items.Fate.{Fate}
use Rattle.level_work.specs.declared.items.Fate.TheVariants as fate

-- which fates an item at a path with an entry may come to if this actor acts on it
abbrev pub MayCome : Type 0 → Type 1
MayCome Who = Who → List ℕ → Entry → Fate → Type 0

abbrev pub is_on : ℕ → Item → Bool
is_on level x = nat_eq (level_of x.path) level

-- the place of an item on its level: so many items of that level are before it
abbrev pub place_of : List Item → ℕ → ℕ → ℕ
place_of items level k = count_by (is_on level) (take k items)

-- an item with this place on its level goes to the actor whose number is the place mod the number of actors. It has a fate that it
-- may come to there
pub record ComesAt {Who : Type 0} (may_come : MayCome Who) (actors : List Who) (place : ℕ) (x : Item) (f : Fate) : Type 0 where
  pub who : Who
  pub acts : slice_get actors (place % length actors) ≡ Some who
  pub may : may_come who x.path x.entry f

-- each item but those whose parent failed
abbrev pub EachMayCome : {Who : Type 0} → MayCome Who → List Who → List Item → List Fate → Type 0
EachMayCome may_come actors items fates =
    (k : ℕ) (x : Item) (f : Fate) → slice_get items k ≡ Some x → slice_get fates k ≡ Some f → f ≢ fate.ParentFailed
    → ComesAt may_come actors (place_of items (level_of x.path) k) x f
