-- Failed items and the counts of faults that answer for them. Our own.
use Rattle.std.specs.Prelude.{◌≡◌, ℕ, ◌+◌, ◌-◌, ◌^◌, ◌<◌, ◌≤◌, Bool, true, false, List, length, Some, sum, slice_get}
use Rattle.level_work.specs.declared.items.Fate.{Fate}
use Rattle.level_work.specs.declared.items.Fate.TheVariants as fate

abbrev pub is_failed : Fate → Bool
is_failed fate.Failed = true
is_failed _ = false

abbrev pub is_done : Fate → Bool
is_done fate.Done = true
is_done _ = false

-- as many counts, none of which fell
pub record NoneFell (old new : List ℕ) : Type 0 where
  pub len : length new ≡ length old
  pub kept : (i m n : ℕ) → slice_get old i ≡ Some m → slice_get new i ≡ Some n → m ≤ n

-- none of these counts is at its largest value
abbrev pub NoneAtEnd : List ℕ → Type 0
NoneAtEnd counts = (i k : ℕ) → slice_get counts i ≡ Some k → k < 2 ^ 64 - 1

-- the ground and the actors together counted so many failures, unless one of their counts is at its largest value
pub record BlamedAll (n ground : ℕ) (actors : List ℕ) (ground' : ℕ) (actors' : List ℕ) : Type 0 where
  pub rose : ground' < 2 ^ 64 - 1 → NoneAtEnd actors' → ground + sum actors + n ≤ ground' + sum actors'
