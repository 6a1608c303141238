-- Fates that are stored, after some of them. Our own.
use Rattle.std.specs.Prelude.{⊤, ◌≡◌, ◌≢◌, ◌⊎◌, ◌<◌, ◌≤◌, ◌+◌, ℕ, true, List, length, take, Some, slice_get}
use Rattle.std.specs.List.{count_by, sum_by}
use Rattle.level_work.specs.Counts.{is_failed}
use Rattle.level_work.specs.PathSets.{has_path}
use Rattle.level_work.specs.Private.Dealing.{IsAmong, FailedAt, In}
use Rattle.level_work.specs.declared.items.Item.{Item}
use Rattle.level_work.specs.declared.items.Fate.{Fate}
use Rattle.level_work.specs.declared.items.Fate.TheVariants as fate
use Rattle.level_work.specs.declared.lots.Lot.{Lot}
use Rattle.level_work.specs.declared.items.Order.{Order}
use Rattle.level_work.specs.declared.items.Order.TheVariants as order

-- the items at the first n places have the fate `ParentFailed`
pub record IsLeftOut (n : ℕ) (places : List ℕ) (old new : List Fate) : Type 0 where
  pub len : length new ≡ length old
  pub others : (k : ℕ) → (IsAmong n places k → ⊥) → slice_get new k ≡ slice_get old k
  pub each : (j k : ℕ) → j < n → slice_get places j ≡ Some k → slice_get new k ≡ Some fate.ParentFailed
  pub most : count_by is_failed new ≤ count_by is_failed old

-- the fates of the first n places of a share are stored
pub record IsStored (n : ℕ) (places : List ℕ) (told old new : List Fate) : Type 0 where
  pub len : length new ≡ length old
  pub others : (k : ℕ) → (IsAmong n places k → ⊥) → slice_get new k ≡ slice_get old k
  pub each : (j k : ℕ) → j < n → slice_get places j ≡ Some k → slice_get new k ≡ slice_get told j
  pub most : count_by is_failed new ≤ count_by is_failed old + count_by is_failed (take n told)

-- the fates of the first n shares are stored
pub record AreStored {A P : Type 0} (n : ℕ) (lots : List (Lot A P)) (old new : List Fate) : Type 0 where
  pub len : length new ≡ length old
  pub others : (k : ℕ) → ((i j : ℕ) → i < n → In lots i j k → ⊥) → slice_get new k ≡ slice_get old k
  pub each : (i j k : ℕ) → i < n → (e : In lots i j k) → slice_get new k ≡ slice_get e.lot.fates.items j
  pub most : count_by is_failed new ≤ count_by is_failed old + sum_by (λ lot. count_by is_failed lot.fates.items) (take n lots)

-- to the failed paths those of the first n places are added
pub record IsNoted (n : ℕ) (items : List Item) (fates : List Fate) (places : List ℕ) (old new : List (List ℕ)) : Type 0 where
  pub sound : (q : List ℕ) → has_path new q ≡ true → (has_path old q ≡ true) ⊎ FailedAt items fates q
  pub kept : (q : List ℕ) → has_path old q ≡ true → has_path new q ≡ true
  pub each : (j k : ℕ) (x : Item) (f : Fate) → j < n → slice_get places j ≡ Some k → slice_get items k ≡ Some x → slice_get fates k ≡ Some f
      → f ≢ fate.Done → has_path new x.path ≡ true

abbrev pub Notes : Order → List Item → List Fate → List ℕ → List (List ℕ) → List (List ℕ) → Type 0
Notes order.TopDown items fates places old new = IsNoted (length places) items fates places old new
Notes order.BottomUp items fates places old new = ⊤
