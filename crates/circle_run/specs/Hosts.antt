-- Ranks that have their turns in rounds on one thread. Our own.
use Rattle.std.specs.Prelude.{◌≡◌, ◌≢◌, ℕ, ◌<◌, Bool, true, false, if◌then◌else◌, List, length, [], ◌++◌, map, slice_index_or, Option, Some, None}
use Rattle.std.specs.List.{flat_map}
use Rattle.ring_core.specs.declared.events.Event.{Event}
use Rattle.post_board.specs.Shown.{Shown}
use Rattle.post_board.specs.Told.{Told}
use Rattle.sum_tree.specs.Shown.{SumShown}
use Rattle.circle_run.specs.Balance.{Log}
use Rattle.circle_run.specs.Moves.{Move, Side, events_of}
use Rattle.circle_run.specs.Stages.{RankSide, Stage, events_of_all}
use Rattle.circle_run.specs.Shares.{moves_of}
use Rattle.circle_run.specs.Books.{counted}
use Rattle.circle_run.specs.Fair.{HandlesLast, MayIdle, PlaysTurns, moves_of_turns}
use Rattle.circle_run.specs.Ranks.{DoesAll, side}
use Rattle.circle_run.specs.Ready.{Ready}
use Rattle.circle_run.specs.Choices.{is_done}
use Rattle.circle_run.specs.declared.settings.Options.{Options}
use Rattle.circle_run.specs.declared.ranks.Rank.{Rank}

-- the events of the moves of the rank r
abbrev pub events_by : ℕ → List (ℕ × Move) → List Event
events_by r moves = flat_map (events_of r) (moves_of r moves)

module _ {J S T : Type 0} where
  abbrev pub IsAscending : List (Rank J S T) → Type 0
  IsAscending ranks = (j k : ℕ) (d : Rank J S T) → j < k → k < length ranks → (slice_index_or ranks j d).me < (slice_index_or ranks k d).me

  -- no rank ran out of memory
  abbrev pub NoneLost : List (Rank J S T) → Type 0
  NoneLost ranks = (k : ℕ) (d : Rank J S T) → k < length ranks → (slice_index_or ranks k d).book.lost ≡ false

  -- no rank ran out of memory or has an event
  abbrev pub NoneWrote : List (Rank J S T) → Type 0
  NoneWrote ranks = (k : ℕ) (d : Rank J S T) → k < length ranks → ((slice_index_or ranks k d).book.lost ≡ false)
      × ((slice_index_or ranks k d).book.events.items ≡ [])

  -- these are all ranks of a run, in order
  pub record AreAll (o : Options) (ranks : List (Rank J S T)) : Type 0 where
    pub count : length ranks ≡ o.ranks
    pub each : (k : ℕ) (d : Rank J S T) → k < length ranks → ((slice_index_or ranks k d).me ≡ k) × ((slice_index_or ranks k d).options ≡ o)

module _ {J S T D : Type 0} (plain : J → D) where
  -- the same ranks as before, with the same plain data
  pub record Same (ranks ranks' : List (Rank J S T)) : Type 0 where
    pub count : length ranks' ≡ length ranks
    pub me : (k : ℕ) (d : Rank J S T) → k < length ranks → (slice_index_or ranks' k d).me ≡ (slice_index_or ranks k d).me
    pub options : (k : ℕ) (d : Rank J S T) → k < length ranks → (slice_index_or ranks' k d).options ≡ (slice_index_or ranks k d).options
    pub facts : (k : ℕ) (d : Rank J S T) → k < length ranks → plain (slice_index_or ranks' k d).job ≡ plain (slice_index_or ranks k d).job

module _ {J S T P Q : Type 0} (log : J → Log) (shows : S → Shown) (seats : P → S → Type 0) (sums_shows : T → SumShown) (sums_seats : Q → T → Type 0) where
  -- a rank between two turns, and whether it is over: whether it is done at the board and knows the final sum
  pub record Placed (done : Bool) (r : Rank J S T) (p : P) (q : Q) : Type 0 where
    pub ready : Ready log shows seats sums_shows sums_seats r p q
    pub over : done ≡ true → (is_done r ≡ true) × ((sums_shows r.sums_seat).answer ≢ None)
    pub going : done ≡ false → (sums_shows r.sums_seat).answer ≡ None

  abbrev pub AllPlaced : List Bool → List (Rank J S T) → P → Q → Type 0
  AllPlaced flags ranks p q = (k : ℕ) (d : Rank J S T) → k < length ranks → Placed (slice_index_or flags k false) (slice_index_or ranks k d) p q

  -- each rank may have its next turn
  abbrev pub AllReady : List (Rank J S T) → P → Q → Type 0
  AllReady ranks p q = (k : ℕ) (d : Rank J S T) → k < length ranks → Placed false (slice_index_or ranks k d) p q

  -- each rank is done and knows the final sum
  abbrev pub AllEnded : List (Rank J S T) → P → Q → Type 0
  AllEnded ranks p q = (k : ℕ) (d : Rank J S T) → k < length ranks → Placed true (slice_index_or ranks k d) p q

-- if the board is told, the rank may have no event
abbrev pub MayIdleIfTold : ℕ → Option Told → Option Told → Type 0
MayIdleIfTold r (Some t) (Some t') = MayIdle r t t'
MayIdleIfTold r _ _ = Unit {0}

module _ {J S T P D : Type 0} (log : J → Log) (plain : J → D) (shows : S → Shown) (tells : P → Option Told) (seats : P → S → Type 0) where
  -- a rank had this turn, which was counted and, with a trace, kept
  pub record Turning (r : Rank J S T) (p : P) (r' : Rank J S T) (p' : P) : Type 0 where
    pub had : r.book.lost ≡ false
    pub turn : List Move
    pub last : HandlesLast turn
    pub does : DoesAll r.options r.me turn (side log plain shows tells seats r p) (side log plain shows tells seats r' p')
    pub kept : r'.book.events.items ≡ r.book.events.items ++ (if r.options.trace then flat_map (events_of r.me) turn else [])
    pub share : r'.book.share ≡ counted (flat_map (events_of r.me) turn) r.book.share
    pub idle : flat_map (events_of r.me) turn ≡ [] → MayIdleIfTold r.me (tells p) (tells p')

  -- the result of a turn, or of none if the rank is done. Unless it ran out of memory, it had some turn
  pub record Took (r : Rank J S T) (p : P) (r' : Rank J S T) (p' : P) : Type 0 where
    pub me : r'.me ≡ r.me
    pub options : r'.options ≡ r.options
    pub facts : plain r'.job ≡ plain r.job
    pub still : tells p ≡ None → p' ≡ p
    pub lost : r.book.lost ≡ true → r'.book.lost ≡ true
    pub went : r'.book.lost ≡ false → Turning r p r' p'

module _ {J S T P : Type 0} (log : J → Log) (tells : P → Option Told) where
  abbrev pub rank_of : Rank J S T → RankSide
  rank_of r = record { queue = r.queue; log = log r.job; draws = r.draws }

  -- all ranks together, and the told board
  abbrev pub stage_of : List (Rank J S T) → Told → Stage
  stage_of ranks t = record { ranks = map rank_of ranks; told = t }

  -- the result of turns of all ranks in rounds, if the board told this before: the turns are played and counted, and their moves are kept so
  pub record Ran (Kept : List (ℕ × Move) → Type 0) (o : Options) (t : Told) (ranks ranks' : List (Rank J S T)) (p' : P) : Type 0 where
    pub turns : List (List Move)
    pub told : Told
    pub after : tells p' ≡ Some told
    pub plays : PlaysTurns o 0 turns (stage_of ranks t) (stage_of ranks' told)
    pub shares : (k : ℕ) (d : Rank J S T) → k < length ranks
        → (slice_index_or ranks' k d).book.share ≡ counted (events_by k (moves_of_turns o.ranks 0 turns)) (slice_index_or ranks k d).book.share
    pub kept : Kept (moves_of_turns o.ranks 0 turns)

module _ {J S T : Type 0} where
  -- with a trace each rank keeps its events
  abbrev pub KeptByEach : Options → List (Rank J S T) → List (Rank J S T) → List (ℕ × Move) → Type 0
  KeptByEach o ranks ranks' moves = (k : ℕ) (d : Rank J S T) → k < length ranks
      → (slice_index_or ranks' k d).book.events.items ≡ (slice_index_or ranks k d).book.events.items ++ (if o.trace then events_by k moves else [])

-- with a trace these are all events, in order
abbrev pub KeptInOrder : Options → List Event → List (ℕ × Move) → Type 0
KeptInOrder o events moves = events ≡ (if o.trace then events_of_all moves else [])

module _ {J S T : Type 0} (log : J → Log) (shows : S → Shown) where
  -- the parts of a rank, and the batches that its seat keeps, over a board that tells nothing
  abbrev pub lone_side : Rank J S T → Side
  lone_side r = record { queue = r.queue; log = log r.job; draws = r.draws; batches = (shows r.seat).batches; told = None }

  -- the result of a rank's own turns, over a board that tells nothing
  pub record Alone (r r' : Rank J S T) : Type 0 where
    pub moves : List Move
    pub does : DoesAll r.options r.me moves (lone_side r) (lone_side r')
    pub share : r'.book.share ≡ counted (flat_map (events_of r.me) moves) r.book.share

  -- each rank that did not run out of memory
  abbrev pub AllAlone : List (Rank J S T) → List (Rank J S T) → Type 0
  AllAlone ranks ranks' = (k : ℕ) (d : Rank J S T) → k < length ranks → (slice_index_or ranks' k d).book.lost ≡ false
      → Alone (slice_index_or ranks k d) (slice_index_or ranks' k d)
