-- Level by level, after some turns. Our own.
use Rattle.std.specs.Prelude.{◌≡◌, ◌≢◌, ◌↔◌, ℕ, true, false, List, length, nat_eq, Option, Some, IfSome, is_some, slice_get}
use Rattle.std.specs.FinMap.{get}
use Rattle.std.specs.Cmp.Lexicographic.{pointwise}
use Rattle.path_text.specs.Path.{level_of, parent_of}
use Rattle.outside.specs.Tree.{Files, is_dir}
use Rattle.level_work.specs.Acts.{Deed}
use Rattle.level_work.specs.Levels.{HasFate, FailsWith}
use Rattle.level_work.specs.Chain.{is_level_done, mark_at}
use Rattle.level_work.specs.declared.items.Item.{Item}
use Rattle.level_work.specs.declared.items.Fate.{Fate}
use Rattle.level_work.specs.declared.items.Fate.TheVariants as fate
use Rattle.level_work.specs.declared.items.Order.{Order}

-- the maps before and now, with the items of some levels done
pub record Sofar (deed : Deed) (o : Order) (t : ℕ) (items : List Item) (fates : List Fate) (before now : Files) : Type 0 where
  pub pending : (q : List ℕ)
      → ((k : ℕ) (x : Item) → slice_get items k ≡ Some x → is_level_done o t (level_of x.path) ≡ true → pointwise nat_eq q x.path ≡ false)
      → get now q ≡ get before q
  pub each : (k : ℕ) (x : Item) (f : Fate) → slice_get items k ≡ Some x → slice_get fates k ≡ Some f → is_level_done o t (level_of x.path) ≡ true
      → HasFate deed o before now x f

-- the items of one level whose parent did not fail stand in directories
abbrev pub CanStep : Order → ℕ → List Item → List Fate → Files → Type 0
CanStep o level items fates files = (k : ℕ) (x : Item) → slice_get items k ≡ Some x → level_of x.path ≡ level
    → (FailsWith o items fates x → ⊥) → is_dir (get files (parent_of x.path)) ≡ true

-- the fates after one level more: those of its items are by the deed, and the others stay
pub record TellsLevel (o : Order) (level : ℕ) (items : List Item) (old new : List Fate) : Type 0 where
  pub len : length new ≡ length old
  pub others : (k : ℕ) (x : Item) → slice_get items k ≡ Some x → level_of x.path ≢ level → slice_get new k ≡ slice_get old k
  pub failed : (k : ℕ) (x : Item) (f : Fate) → slice_get items k ≡ Some x → slice_get new k ≡ Some f → level_of x.path ≡ level
      → (f ≡ fate.ParentFailed) ↔ FailsWith o items old x

-- every path but those of the level's items is as before
abbrev pub SameButLevel : ℕ → List Item → Files → Files → Type 0
SameButLevel level items old new = (q : List ℕ)
    → ((k : ℕ) (x : Item) → slice_get items k ≡ Some x → level_of x.path ≡ level → pointwise nat_eq q x.path ≡ false)
    → get new q ≡ get old q

-- the fates of the levels that are done
abbrev pub ToldSofar : Order → ℕ → List Item → List Fate → Type 0
ToldSofar o t items fates = (k : ℕ) (x : Item) (f : Fate) → slice_get items k ≡ Some x → slice_get fates k ≡ Some f
    → is_level_done o t (level_of x.path) ≡ true → (f ≡ fate.ParentFailed) ↔ FailsWith o items fates x

-- the maps before and now, and the fates, after so many turns
pub record Ran (deed : Deed) (o : Order) (top turn : ℕ) (items : List Item) (fates : List Fate) (was now : Option Files) : Type 0 where
  pub len : length fates ≡ length items
  pub told : ToldSofar o (mark_at o top turn) items fates
  pub sofar : IfSome was (λ before. IfSome now (Sofar deed o (mark_at o top turn) items fates before))
  pub tells : is_some now ≡ is_some was
