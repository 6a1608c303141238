-- The places of the items of each level, how they are dealt, and the paths that failed. Our own.
use Rattle.std.specs.Prelude.{⊤, ◌≡◌, ◌≢◌, ◌⊎◌, ℕ, ◌<◌, ◌%◌, Bool, true, List, [], ◌∷◌, ◌++◌, length, nat_eq, take, Some, slice_get, slice_set}
use Rattle.std.specs.List.{list_any, count_by}
use Rattle.std.specs.Cmp.Lexicographic.{pointwise}
use Rattle.path_text.specs.Path.{level_of}
use Rattle.level_work.specs.Fates.{is_on, place_of}
use Rattle.level_work.specs.Levels.{FailsWith}
use Rattle.level_work.specs.PathSets.{has_path}
use Rattle.level_work.specs.Private.Crews.{Dealt}
use Rattle.level_work.specs.declared.items.Item.{Item}
use Rattle.level_work.specs.declared.items.Fate.{Fate}
use Rattle.level_work.specs.declared.items.Fate.TheVariants as fate
use Rattle.level_work.specs.declared.items.Order.{Order}
use Rattle.level_work.specs.declared.items.Order.TheVariants as order
use Rattle.level_work.specs.declared.lots.Lot.{Lot}

-- a number is among the first n of a list
pub record IsAmong (n : ℕ) (places : List ℕ) (k : ℕ) : Type 0 where
  pub place : ℕ
  pub at : slice_get places place ≡ Some k
  pub early : place < n

-- the places of those of the first n items that are on a level, each once
pub record AreOnLevel (n level : ℕ) (items : List Item) (places : List ℕ) : Type 0 where
  pub on_level : (j k : ℕ) (x : Item) → slice_get places j ≡ Some k → slice_get items k ≡ Some x → level_of x.path ≡ level
  pub below : (j k : ℕ) → slice_get places j ≡ Some k → k < n
  pub once : (i j k : ℕ) → slice_get places i ≡ Some k → slice_get places j ≡ Some k → i ≡ j
  pub all : (k : ℕ) (x : Item) → k < n → slice_get items k ≡ Some x → level_of x.path ≡ level → IsAmong (length places) places k
  pub many : length places ≡ count_by (is_on level) (take n items)
  pub turn : (t k : ℕ) → slice_get places t ≡ Some k → t ≡ place_of items level k

-- the same, of each level
abbrev pub AreByLevel : ℕ → List Item → List (List ℕ) → Type 0
AreByLevel n items levels = (level : ℕ) (places : List ℕ) → slice_get levels level ≡ Some places → AreOnLevel n level items places

-- an item with this path did not come to `Done`
pub record FailedAt (items : List Item) (fates : List Fate) (q : List ℕ) : Type 0 where
  pub place : ℕ
  pub item : Item
  pub fate_of : Fate
  pub at : slice_get items place ≡ Some item
  pub has : slice_get fates place ≡ Some fate_of
  pub is_path : item.path ≡ q
  pub not_done : fate_of ≢ fate.Done

-- the paths of exactly the items that did not come to `Done`
pub record AreFailed (items : List Item) (fates : List Fate) (paths : List (List ℕ)) : Type 0 where
  pub sound : (q : List ℕ) → has_path paths q ≡ true → FailedAt items fates q
  pub complete : (k : ℕ) (x : Item) (f : Fate) → slice_get items k ≡ Some x → slice_get fates k ≡ Some f → f ≢ fate.Done → has_path paths x.path ≡ true

-- From the bottom up they are not kept
abbrev pub Knows : Order → List Item → List Fate → List (List ℕ) → Type 0
Knows order.TopDown items fates paths = AreFailed items fates paths
Knows order.BottomUp items fates paths = ⊤

-- no item of the level has come to anything yet
abbrev pub IsFresh : ℕ → List Item → List Fate → Type 0
IsFresh level items fates = (k : ℕ) (x : Item) (f : Fate) → slice_get items k ≡ Some x → slice_get fates k ≡ Some f → level_of x.path ≡ level → f ≡ fate.Done

module _ {A P : Type 0} where
  -- the number k is at place j of share i
  pub record In (lots : List (Lot A P)) (i j k : ℕ) : Type 0 where
    pub lot : Lot A P
    pub is_lot : slice_get lots i ≡ Some lot
    pub at : slice_get lot.places.items j ≡ Some k

  -- the first n of some places are dealt: each whose item's parent did not fail is in one share at one place
  pub record DealtTo (n : ℕ) (o : Order) (items : List Item) (fates : List Fate) (places : List ℕ) (lots : List (Lot A P)) : Type 0 where
    pub from : (i j k : ℕ) → In lots i j k → IsAmong n places k
    pub can : (i j k : ℕ) (x : Item) → In lots i j k → slice_get items k ≡ Some x → FailsWith o items fates x → ⊥
    pub once : (i j s t k : ℕ) → In lots i j k → In lots s t k → (i ≡ s) × (j ≡ t)
    pub all : (t k : ℕ) (x : Item) → t < n → slice_get places t ≡ Some k → slice_get items k ≡ Some x → FailsWith o items fates x ⊎ Dealt lots k

  -- the item at place k is left out, since its parent failed, or dealt to the lot i
  pub data DealsOne (o : Order) (items : List Item) (fates : List Fate) (k i : ℕ) (lots next : List (Lot A P)) : Type 0 where
    left_out : ((x : Item) → slice_get items k ≡ Some x → FailsWith o items fates x) → next ≡ lots → DealsOne o items fates k i lots next
    dealt_to : (lot new : Lot A P) → slice_get lots i ≡ Some lot
        → ((x : Item) → slice_get items k ≡ Some x → FailsWith o items fates x → ⊥) → new.places.items ≡ lot.places.items ++ k ∷ []
        → new.fates ≡ lot.fates → new.lost ≡ lot.lost →
        next ≡ slice_set lots i new → DealsOne o items fates k i lots next

  -- the number at place t of these is in the share t mod the number of shares
  abbrev pub AreInTurn : List ℕ → List (Lot A P) → Type 0
  AreInTurn places lots = (i j k t : ℕ) → In lots i j k → slice_get places t ≡ Some k → i ≡ t % length lots
