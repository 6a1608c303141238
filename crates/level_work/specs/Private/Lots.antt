-- A share of a level: an actor with the part that it writes and the places of its items. Our own.
use Rattle.std.specs.Prelude.{◌≡◌, ◌≢◌, ℕ, ◌+◌, ◌-◌, ◌^◌, ◌<◌, ◌≤◌, false, List, [], ◌∷◌, ◌++◌, if◌then◌else◌, length, nat_eq, Option, Some, None}
use Rattle.std.specs.Prelude.{IfSome, IsTrue, slice_get, is_some, Ok}
use Rattle.std.specs.List.{count_by}
use Rattle.std.specs.FinMap.{get}
use Rattle.std.specs.Cmp.Lexicographic.{pointwise}
use Rattle.path_text.specs.Order.{is_within}
use Rattle.outside.specs.Tree.{Files}
use Rattle.outside.specs.Writes.{Area, nothing_lent, is_top, is_open}
use Rattle.outside.specs.Writes.{SameBut}
use Rattle.level_work.specs.Counts.{is_failed}
use Rattle.level_work.specs.Acts.{Deed, IsDone, at_and_under}
use Rattle.level_work.specs.declared.items.Item.{Item}
use Rattle.level_work.specs.declared.items.Fate.{Fate}
use Rattle.level_work.specs.declared.items.Fate.TheVariants as fate
use Rattle.level_work.specs.declared.lots.Lot.{Lot}

-- the item at place j of these
pub record IsAt (items : List Item) (places : List ℕ) (j : ℕ) (item : Item) : Type 0 where
  pub place : ℕ
  pub at : slice_get places j ≡ Some place
  pub is : slice_get items place ≡ Some item

-- no item at one of the places is at or under another
abbrev pub AreApart : List Item → List ℕ → Type 0
AreApart items places = (i j : ℕ) (x y : Item) → i ≢ j → IsAt items places i x → IsAt items places j y → is_within x.path y.path ≡ false

-- every path but those of the items at the first n places is as before
abbrev pub SameButFirst : ℕ → List Item → List ℕ → Files → Files → Type 0
SameButFirst n items places before after = (q : List ℕ)
    → ((j : ℕ) (x : Item) → j < n → IsAt items places j x → pointwise nat_eq q x.path ≡ false) → get after q ≡ get before q

-- the fates of the items at the first places: each is by the deed
abbrev pub DoneByEach : Deed → List Item → List ℕ → List Fate → Files → Files → Type 0
DoneByEach deed items places fates before after = (j : ℕ) (x : Item) (f : Fate) → IsAt items places j x → slice_get fates j ≡ Some f
    → deed x.path x.entry f (at_and_under x.path before) (at_and_under x.path after)

pub record WorkedOn (deed : Deed) (items : List Item) (places : List ℕ) (fates : List Fate) (before after : Files) : Type 0 where
  pub others : SameButFirst (length fates) items places before after
  pub each : DoneByEach deed items places fates before after

-- the one or the other counted so many failures, or a count is at its largest value
pub record Blamed (n : ℕ) (p a p' a' : ℕ) : Type 0 where
  pub part : p ≤ p'
  pub actor : a ≤ a'
  pub some : p' < 2 ^ 64 - 1 → a' < 2 ^ 64 - 1 → p + a + n ≤ p' + a'

-- what a part shows, if there is one
abbrev pub part_tree : {P : Type 0} → (P → Option Files) → Option P → Option Files
part_tree tree None = None
part_tree tree (Some p) = tree p

abbrev pub part_area : {P : Type 0} → (P → Area) → Option P → Area
part_area area None = nothing_lent
part_area area (Some p) = area p

abbrev pub part_count : {P : Type 0} → (P → ℕ) → Option P → ℕ
part_count count None = 0
part_count count (Some p) = count p

module _ {A P : Type 0} (area : Option P → Area) where
  -- a share before its work
  pub record Ready (items : List Item) (lot : Lot A P) : Type 0 where
    pub fresh : lot.fates.items ≡ []
    pub found : lot.lost ≡ false
    pub inside : (j k : ℕ) → slice_get lot.places.items j ≡ Some k → k < length items
    pub tops : (j : ℕ) (x : Item) → IsAt items lot.places.items j x → IsTrue (is_top (area lot.part) x.path)
    pub are_open : (j : ℕ) (x : Item) → IsAt items lot.places.items j x → IsTrue (is_open (area lot.part) x.path)
    pub apart : AreApart items lot.places.items

module _ {A P D : Type 0} (tree : Option P → Option Files) (area : Option P → Area) (part_count : Option P → ℕ) (plain : A → D)
    (count : A → ℕ) (deed : D → Deed) where
  -- the fields that no work on a share changes
  pub record Keeps (lot lot' : Lot A P) : Type 0 where
    pub places : lot'.places ≡ lot.places
    pub same_area : area lot'.part ≡ area lot.part
    pub same_plain : plain lot'.actor ≡ plain lot.actor
    pub tells : is_some (tree lot'.part) ≡ is_some (tree lot.part)
    pub there : is_some lot'.part ≡ is_some lot.part

  -- the item at place j was acted on
  pub record Stepped (items : List Item) (j : ℕ) (lot lot' : Lot A P) : Type 0 where
    pub keeps : Keeps lot lot'
    pub lost : lot'.lost ≡ lot.lost
    pub now : Fate
    pub fates : lot'.fates.items ≡ lot.fates.items ++ now ∷ []
    pub named : now ≢ fate.ParentFailed
    pub blamed : Blamed (if is_failed now then 1 else 0) (part_count lot.part) (count lot.actor) (part_count lot'.part) (count lot'.actor)
    pub told : (x : Item) → IsAt items lot.places.items j x
        → IfSome (tree lot.part) (λ before. IfSome (tree lot'.part) (IsDone (deed (plain lot.actor)) x.path x.entry (Ok now) before))

  -- the actor was out of memory at the item at place j
  pub record Stopped (items : List Item) (j : ℕ) (lot lot' : Lot A P) : Type 0 where
    pub keeps : Keeps lot lot'
    pub lost : lot'.lost ≡ lot.lost
    pub fates : lot'.fates.items ≡ lot.fates.items
    pub blamed : Blamed 0 (part_count lot.part) (count lot.actor) (part_count lot'.part) (count lot'.actor)
    pub rest : (x : Item) → IsAt items lot.places.items j x → IfSome (tree lot.part) (λ before. IfSome (tree lot'.part) (SameBut x.path before))

  -- a share before its work, and after that on its first n items
  pub record Upto (n : ℕ) (items : List Item) (lot lot' : Lot A P) : Type 0 where
    pub keeps : Keeps lot lot'
    pub lost : lot'.lost ≡ false
    pub so_many : length lot'.fates.items ≡ n
    pub named : (j : ℕ) (f : Fate) → slice_get lot'.fates.items j ≡ Some f → f ≢ fate.ParentFailed
    pub blamed : Blamed (count_by is_failed lot'.fates.items) (part_count lot.part) (count lot.actor) (part_count lot'.part) (count lot'.actor)
    pub told : IfSome (tree lot.part) (λ before. IfSome (tree lot'.part) (WorkedOn (deed (plain lot.actor)) items lot.places.items lot'.fates.items before))

  -- a share before its work and after it
  pub record HasWorked (items : List Item) (lot lot' : Lot A P) : Type 0 where
    pub keeps : Keeps lot lot'
    pub blamed : Blamed (count_by is_failed lot'.fates.items) (part_count lot.part) (count lot.actor) (part_count lot'.part) (count lot'.actor)
    pub named : (j : ℕ) (f : Fate) → slice_get lot'.fates.items j ≡ Some f → f ≢ fate.ParentFailed
    pub all : lot'.lost ≡ false → length lot'.fates.items ≡ length lot.places.items
    pub told : lot'.lost ≡ false
        → IfSome (tree lot.part)
        (λ before. IfSome (tree lot'.part) (WorkedOn (deed (plain lot.actor)) items lot.places.items lot'.fates.items before))
    pub rest : IfSome (tree lot.part) (λ before. IfSome (tree lot'.part) (SameButFirst (length lot.places.items) items lot.places.items before))
