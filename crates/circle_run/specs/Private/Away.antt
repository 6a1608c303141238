-- The results of ranks that run in threads, at a board and at sums which these share. Our own.
use Rattle.std.specs.Prelude.{◌≡◌, ℕ, ◌<◌, Bool, true, false, List, length, slice_index_or, All, Option, None}
use Rattle.post_board.specs.Shown.{Shown}
use Rattle.sum_tree.specs.Shown.{SumShown}
use Rattle.circle_run.specs.Balance.{Log}
use Rattle.post_board.specs.Told.{Told}
use Rattle.sum_tree.specs.Told.{SumTold}
use Rattle.circle_run.specs.Hosts.{IsAscending, NoneLost, Same, Placed, AllReady, AllEnded, Alone, AllAlone}
use Rattle.circle_run.specs.declared.ranks.Rank.{Rank}
use Rattle.circle_run.specs.declared.backs.Back.{Back}
use Rattle.circle_run.specs.declared.backs.Back.TheVariants.{Ran, Untouched}

abbrev pub one_if : Bool → ℕ
one_if true = 1
one_if false = 0

module _ {J S T : Type 0} where
  -- each rank is at its number
  abbrev pub InPlace : List (Rank J S T) → Type 0
  InPlace whole = (k : ℕ) (d : Rank J S T) → k < length whole → (slice_index_or whole k d).me ≡ k

  -- one of these ranks, as it is there
  pub record IsOne (whole : List (Rank J S T)) (r : Rank J S T) : Type 0 where
    pub inside : r.me < length whole
    pub is : slice_index_or whole r.me r ≡ r

  -- some of these ranks, in ascending order
  pub record IsHost (whole ranks : List (Rank J S T)) : Type 0 where
    pub order : IsAscending ranks
    pub ones : All (IsOne whole) ranks

module _ {J S T P Q D : Type 0} (log : J → Log) (plain : J → D) (shows : S → Shown) (seats : P → S → Type 0)
    (sums_shows : T → SumShown) (sums_seats : Q → T → Type 0) where
  -- the results of a host's ranks
  pub record HostRan (p : P) (q : Q) (before after : List (Rank J S T)) : Type 0 where
    pub ended : AllEnded log shows seats sums_shows sums_seats after p q
    pub same : Same plain before after
    pub alone : AllAlone log shows before after

  -- the ranks that a thread gives back: as they have ended, or as they were
  abbrev pub Gives : P → Q → List (Rank J S T) → Back J S T → Type 0
  Gives p q before (Ran ranks) = HostRan p q before ranks.items
  Gives p q before (Untouched ranks) = ranks.items ≡ before

  -- a rank that was the one of its number at the start and has ended
  pub record EndOf (whole : List (Rank J S T)) (p : P) (q : Q) (r : Rank J S T) : Type 0 where
    pub inside : r.me < length whole
    pub options : r.options ≡ (slice_index_or whole r.me r).options
    pub facts : plain r.job ≡ plain (slice_index_or whole r.me r).job
    pub over : Placed log shows seats sums_shows sums_seats true r p q

  abbrev pub AloneOf : List (Rank J S T) → Rank J S T → Type 0
  AloneOf whole r = Alone log shows (slice_index_or whole r.me r) r

  pub record AreDone (whole : List (Rank J S T)) (p : P) (q : Q) (ranks : List (Rank J S T)) : Type 0 where
    pub ends : All (EndOf whole p q) ranks
    pub alone : NoneLost ranks → All (AloneOf whole) ranks

module _ {J S T P Q : Type 0} (log : J → Log) (shows : S → Shown) (tells : P → Option Told) (seats : P → S → Type 0)
    (sums_shows : T → SumShown) (sums_tells : Q → Option SumTold) (sums_seats : Q → T → Type 0) where
  -- these ranks may run as a host, at a board and at sums that tell nothing
  pub record MayRun (p : P) (q : Q) (ranks : List (Rank J S T)) : Type 0 where
    pub untold : tells p ≡ None
    pub sums_untold : sums_tells q ≡ None
    pub order : IsAscending ranks
    pub ready : AllReady log shows seats sums_shows sums_seats ranks p q
