-- Several actors at work on one level: the shares they get, the parts that are out, and what comes back. Our own.
use Rattle.std.specs.Prelude.{◌≡◌, ◌≢◌, ◌⊎◌, ℕ, ◌+◌, ◌-◌, ◌^◌, ◌<◌, ◌≤◌, true, false, List, [], ◌∷◌, ◌++◌, length, map, Option, Some, None, slice_get, is_some}
use Rattle.std.specs.List.{count_by, sum_by}
use Rattle.std.specs.FinMap.{get}
use Rattle.path_text.specs.Order.{is_within}
use Rattle.path_text.specs.Path.{level_of}
use Rattle.outside.specs.Tree.{Files}
use Rattle.outside.specs.Writes.{Area, all_but, under}
use Rattle.outside.specs.Lease.{in_tops, tops_of}
use Rattle.level_work.specs.Levels.{FailsWith}
use Rattle.level_work.specs.Counts.{NoneAtEnd, is_failed}
use Rattle.level_work.specs.Private.Lots.{IsAt, Ready}
use Rattle.level_work.specs.Private.Shares.{ArePaths}
use Rattle.level_work.specs.declared.items.Item.{Item}
use Rattle.level_work.specs.declared.items.Fate.{Fate}
use Rattle.level_work.specs.declared.items.Fate.TheVariants as fate
use Rattle.level_work.specs.declared.items.Order.{Order}
use Rattle.level_work.specs.declared.lots.Lot.{Lot}

abbrev pub tops_in : Area → List (List (List ℕ))
tops_in (all_but out cut) = []
tops_in (under tops) = tops ∷ []

module _ {A P : Type 0} where
  -- the item at place t of the share i
  pub record InLot (items : List Item) (lots : List (Lot A P)) (i t : ℕ) (x : Item) : Type 0 where
    pub lot : Lot A P
    pub is_lot : slice_get lots i ≡ Some lot
    pub at : IsAt items lot.places.items t x

  -- the place of an item in the shares
  pub record Dealt (lots : List (Lot A P)) (k : ℕ) : Type 0 where
    pub share : ℕ
    pub place : ℕ
    pub lot : Lot A P
    pub is_lot : slice_get lots share ≡ Some lot
    pub at : slice_get lot.places.items place ≡ Some k

  -- no part is out
  abbrev pub AtHome : List (Lot A P) → Type 0
  AtHome lots = (i : ℕ) (lot : Lot A P) → slice_get lots i ≡ Some lot → lot.part ≡ None

  -- the shares of a level: each of its items whose parent did not fail is in one share at one place
  pub record AreShares (o : Order) (level : ℕ) (items : List Item) (fates : List Fate) (lots : List (Lot A P)) : Type 0 where
    pub inside : (i j k : ℕ) (lot : Lot A P) → slice_get lots i ≡ Some lot → slice_get lot.places.items j ≡ Some k → k < length items
    pub on_level : (i t : ℕ) (x : Item) → InLot items lots i t x → level_of x.path ≡ level
    pub can : (i t : ℕ) (x : Item) → InLot items lots i t x → FailsWith o items fates x → ⊥
    pub apart : (i j t s : ℕ) (x y : Item) → ((i ≡ j) × (t ≡ s) → ⊥) → InLot items lots i t x → InLot items lots j s y → (q : List ℕ)
        → is_within q x.path ≡ true → is_within q y.path ≡ false
    pub all : (k : ℕ) (x : Item) → slice_get items k ≡ Some x → level_of x.path ≡ level → FailsWith o items fates x ⊎ Dealt lots k

  -- the same actors with the same parts
  pub record SameSeats (lots lots' : List (Lot A P)) : Type 0 where
    pub len : length lots' ≡ length lots
    pub actor : map (λ lot. lot.actor) lots' ≡ map (λ lot. lot.actor) lots
    pub part : map (λ lot. lot.part) lots' ≡ map (λ lot. lot.part) lots

  -- the same actors with the same shares and their fates
  pub record SameShares (lots lots' : List (Lot A P)) : Type 0 where
    pub actor : map (λ lot. lot.actor) lots' ≡ map (λ lot. lot.actor) lots
    pub places : map (λ lot. lot.places) lots' ≡ map (λ lot. lot.places) lots
    pub fates : map (λ lot. lot.fates) lots' ≡ map (λ lot. lot.fates) lots
    pub lost : map (λ lot. lot.lost) lots' ≡ map (λ lot. lot.lost) lots

  -- where a part is, as its lot shows it
  module _ (area : Option P → Area) where
    -- the tops of the parts that are out, in order
    abbrev pub tops_out : List (Lot A P) → List (List (List ℕ))
    tops_out [] = []
    tops_out (lot ∷ lots) = tops_in (area lot.part) ++ tops_out lots

    -- a path is in the part of one lot at most
    abbrev pub ApartOut : List (Lot A P) → Type 0
    ApartOut lots = (i j : ℕ) (lot lot' : Lot A P) (q : List ℕ) → slice_get lots i ≡ Some lot → slice_get lots j ≡ Some lot'
        → in_tops (tops_of (area lot.part)) q ≡ true → in_tops (tops_of (area lot'.part)) q ≡ true → i ≡ j

    abbrev pub InNone : List (Lot A P) → List ℕ → Type 0
    InNone lots q = (i : ℕ) (lot : Lot A P) → slice_get lots i ≡ Some lot → in_tops (tops_of (area lot.part)) q ≡ false

    -- each share is leased: its tops are the paths of its items
    pub record AllReady (items : List Item) (lots : List (Lot A P)) : Type 0 where
      pub ready : (i : ℕ) (lot : Lot A P) → slice_get lots i ≡ Some lot → Ready area items lot
      pub paths : (i : ℕ) (lot : Lot A P) → slice_get lots i ≡ Some lot → ArePaths items lot.places.items (tops_of (area lot.part))

  module _ (tree : Option P → Option Files) (area : Option P → Area) where
    -- the parts that are out and the rest are together the map before
    pub record AreOut (lots : List (Lot A P)) (before rest : Files) : Type 0 where
      pub left : (q : List ℕ) → InNone area lots q → get rest q ≡ get before q
      pub out : (i : ℕ) (lot : Lot A P) (own : Files) (q : List ℕ) → slice_get lots i ≡ Some lot → tree lot.part ≡ Some own
          → in_tops (tops_of (area lot.part)) q ≡ true → get own q ≡ get before q

    -- the source of the node at a path, once all parts are back
    pub data Comes (lots : List (Lot A P)) (rest after : Files) (q : List ℕ) : Type 0 where
      stays : InNone area lots q → get after q ≡ get rest q → Comes lots rest after q
      comes : (i : ℕ) (lot : Lot A P) (own : Files) → slice_get lots i ≡ Some lot → tree lot.part ≡ Some own
          → in_tops (tops_of (area lot.part)) q ≡ true → get after q ≡ get own q → Comes lots rest after q

    abbrev pub AllBack : List (Lot A P) → Files → Files → Type 0
    AllBack lots rest after = (q : List ℕ) → Comes lots rest after q

  -- each part is under tops of its own
  abbrev pub AreUnder : (Option P → Area) → List (Lot A P) → Type 0
  AreUnder area lots = (i : ℕ) (lot : Lot A P) (p : P) → slice_get lots i ≡ Some lot → lot.part ≡ Some p → area lot.part ≡ under (tops_of (area lot.part))

  abbrev pub AllTell : (Option P → Option Files) → Option Files → List (Lot A P) → Type 0
  AllTell tree t lots = (i : ℕ) (lot : Lot A P) (p : P) → slice_get lots i ≡ Some lot → lot.part ≡ Some p → is_some (tree lot.part) ≡ is_some t

  -- the fates of a level: those of the shares, and of each other item of the level that its parent failed
  pub record Stored (level : ℕ) (items : List Item) (lots : List (Lot A P)) (old new : List Fate) : Type 0 where
    pub len : length new ≡ length old
    pub others : (k : ℕ) (x : Item) → slice_get items k ≡ Some x → level_of x.path ≢ level → slice_get new k ≡ slice_get old k
    pub dealt : (k : ℕ) (d : Dealt lots k) → slice_get new k ≡ slice_get d.lot.fates.items d.place
    pub undealt : (k : ℕ) (x : Item) (f : Fate) → slice_get items k ≡ Some x → slice_get new k ≡ Some f → level_of x.path ≡ level
        → (Dealt lots k → ⊥) → f ≡ fate.ParentFailed
    pub most : count_by is_failed new ≤ count_by is_failed old + sum_by (λ lot. count_by is_failed lot.fates.items) lots

-- all actors show these data
abbrev pub ShowAll : {A D : Type 0} → (A → D) → D → List A → Type 0
ShowAll plain d actors = (i : ℕ) (a : _) → slice_get actors i ≡ Some a → plain a ≡ d

-- The failures rose from m to n at most as much as the count of the ground and those of the actors together. This holds unless one
-- of these is at its largest value
pub record BlamedMore (m n : ℕ) (ground : ℕ) (actors : List ℕ) (ground' : ℕ) (actors' : List ℕ) : Type 0 where
  pub ground_kept : ground ≤ ground'
  pub kept : (i k k' : ℕ) → slice_get actors i ≡ Some k → slice_get actors' i ≡ Some k' → k ≤ k'
  pub rose : ground' < 2 ^ 64 - 1 → NoneAtEnd actors' → ground + sum_by (λ k. k) actors + n ≤ ground' + sum_by (λ k. k) actors' + m

-- the same actors after some work: they show the same data, and no count fell
pub record SameActors {A P D : Type 0} (plain : A → D) (count : A → ℕ) (lots lots' : List (Lot A P)) : Type 0 where
  pub plains : map (λ lot. plain lot.actor) lots' ≡ map (λ lot. plain lot.actor) lots
  pub counts : (i k k' : ℕ) → slice_get (map (λ lot. count lot.actor) lots) i ≡ Some k → slice_get (map (λ lot. count lot.actor) lots') i ≡ Some k' → k ≤ k'
