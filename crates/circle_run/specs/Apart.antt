-- The runs of ranks that share a board which tells nothing: each rank's own moves, and the batches that its seat keeps. Our own.
use Rattle.std.specs.Prelude.{◌≡◌, ℕ, ◌<◌, List, [], length, slice_index_or, Some, None}
use Rattle.std.specs.List.{flat_map}
use Rattle.rank_queue.specs.Shares.{generator_of}
use Rattle.post_board.specs.Shown.{Strings, Batches}
use Rattle.post_board.specs.Calls.{Even}
use Rattle.post_board.specs.BoardSeats.{unused}
use Rattle.circle_run.specs.Balance.{Log, Balanced}
use Rattle.circle_run.specs.Moves.{Move, Side}
use Rattle.circle_run.specs.Ranks.{DoesAll}
use Rattle.circle_run.specs.Stages.{dealt_to}
use Rattle.circle_run.specs.declared.settings.Options.{Options}

-- a rank that was dealt this, and at its end has this log, these strings left, and a seat with these batches
pub record RankRan (o : Options) (me : ℕ) (dealt : Strings) (log : Log) (left : Strings) (batches : Batches) : Type 0 where
  pub moves : List Move
  pub last : Side
  pub does : DoesAll o me moves (record { queue = dealt; log = []; draws = generator_of o.seed me; batches = Some (unused o.ranks); told = None }) last
  pub queued : last.queue ≡ left
  pub logged : last.log ≡ log
  pub kept : last.batches ≡ Some batches

-- all ranks, by their number
pub record AllRan (o : Options) (starts : Strings) (logs : List Log) (left : List Strings) (batches : List Batches) : Type 0 where
  pub count : length logs ≡ o.ranks
  pub lists : length left ≡ o.ranks
  pub as_many : length batches ≡ o.ranks
  pub each : (k : ℕ) (d : Log) (l : Strings) (b : Batches) → k < o.ranks
      → RankRan o k (dealt_to o.ranks starts k) (slice_index_or logs k d) (slice_index_or left k l) (slice_index_or batches k b)
  pub even : (i j : ℕ) (b : Batches) → i < o.ranks → j < o.ranks → Even (Some (slice_index_or batches i b)) i (Some (slice_index_or batches j b)) j

-- if each rank made moves of its own to its end, and each took from each other the batches that the other gave, the run is balanced
abbrev pub HostsAreBalanced : Type 0
HostsAreBalanced = (o : Options) (starts : Strings) (logs : List Log) (left : List Strings) (batches : List Batches)
    → 0 < o.ranks → AllRan o starts logs left batches → Balanced (flat_map (λ l. l) logs) (flat_map (λ l. l) left) starts
