-- A traced run, and the numbers of progress of a run.
-- A trace is a run of ring_core's world, whose token is EWD840's. The strings that each rank takes and the order in which the ranks act are
-- our own, after libcircle (LaFon et al., SC 2012).
use Rattle.std.specs.Prelude.{◌≡◌, ℕ, ◌+◌, ◌-◌, ◌^◌, ◌<◌, ◌≤◌, ◌==◌, if◌then◌else◌, min, sum, All, true, List, length, [], ◌∷◌, ◌++◌, map, count_by, sum_by}
use Rattle.std.specs.List.{range_with_len}
use Rattle.ring_core.specs.declared.states.Token.TheVariants.{Over}
use Rattle.ring_core.specs.declared.events.Event.{Event}
use Rattle.ring_core.specs.declared.events.Event.TheVariants.{Give, Take}
use Rattle.ring_core.specs.World.{started}
use Rattle.post_board.specs.Shown.{Strings}
use Rattle.post_board.specs.Told.{place}
use Rattle.circle_run.specs.Balance.{Log}
use Rattle.circle_run.specs.Moves.{Move}
use Rattle.circle_run.specs.Stages.{Stage, Plays, events_of_all, begun}
use Rattle.circle_run.specs.Worlds.{IsRunTo}
use Rattle.circle_run.specs.Fair.{handles, IsFair, AnswersFirst}
use Rattle.circle_run.specs.Progress.{Rises, Thousands, newest}
use Rattle.circle_run.specs.declared.outcomes.Share.{Share}
use Rattle.circle_run.specs.declared.settings.Options.{Options}

-- the events of a whole run: those of moves that are played from the deal of the starts on, by the rules of queues, amounts and victims,
-- until all ranks have seen the end
pub record IsTraced (o : Options) (starts : Strings) (logs : List Log) (events : List Event) : Type 0 where
  pub moves : List (ℕ × Move)
  pub last : Stage
  pub plays : Plays o moves (begun o starts) last
  pub are : events ≡ events_of_all moves
  -- each event is legal in the world that those before it left
  pub legal : IsRunTo o starts moves last
  pub over : last.told.token ≡ Over
  pub ended : (r : ℕ) → r < o.ranks → (place last.told r).ended ≡ true
  -- the log of each rank
  pub logs_are : logs ≡ map (λ x. x.log) last.ranks
  -- a rank handles a string only while nobody asks it
  pub answers : AnswersFirst (started o.ranks (length starts)) events
  -- between two strings that a rank handles every other rank that does not wait for an answer has an event
  pub fair : IsFair (started o.ranks (length starts)) events

-- how many strings the rank r gives by the event, and how many it takes
abbrev pub given_at : ℕ → Event → ℕ
given_at r (Give rank to count) = if rank == r then count else 0
given_at r _ = 0

abbrev pub taken_at : ℕ → Event → ℕ
taken_at r (Take rank from count) = if rank == r then count else 0
taken_at r _ = 0

-- the counts of the rank r by the events. A count stops at the greatest value of its type
abbrev pub share_in : List Event → ℕ → Share
share_in events r = record {
  handled = min (count_by (handles r) events) (2 ^ 64 - 1);
  given = min (sum_by (given_at r) events) (2 ^ 128 - 1);
  taken = min (sum_by (taken_at r) events) (2 ^ 128 - 1);
}

-- the numbers of progress of a run in which each rank handled so many strings. They never fall, and each but the last is at least 1,000
-- above the one before it.
-- The last is the number of strings handled in all, and of one rank the others are the thousands up to it
pub record IsProgress (handled : List ℕ) (numbers : List ℕ) : Type 0 where
  pub front : List ℕ
  pub final : ℕ
  pub are : numbers ≡ front ++ final ∷ []
  pub rises : Rises 0 front
  pub within : newest 0 front ≤ final
  pub total : All (λ k. k < 2 ^ 56) handled → final ≡ sum handled
  pub alone : length handled ≡ 1 → Thousands 0 front × (final < newest 0 front + 1000)

-- a whole run was made, whose counts the shares are, and whose events are kept with a trace
pub record WasRun (o : Options) (starts : Strings) (logs : List Log) (shares : List Share) (told : List Event) : Type 0 where
  pub events : List Event
  pub traced : IsTraced o starts logs events
  pub counts : shares ≡ map (share_in events) (range_with_len 0 o.ranks)
  pub kept : told ≡ (if o.trace then events else [])
