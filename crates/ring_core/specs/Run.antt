-- Runs of events: each is legal in the world that those before it left. Our own.
use Rattle.std.specs.Prelude.{◌≡◌, ℕ, ◌<◌, Bool, true, false, List, [], ◌∷◌, take, slice_get, Some, None, option_and_then}
use Rattle.ring_core.specs.declared.states.Desk.{Desk}
use Rattle.ring_core.specs.declared.states.Desk.TheVariants.{Full}
use Rattle.ring_core.specs.declared.states.RankState.{RankState}
use Rattle.ring_core.specs.declared.events.Event.{Event}
use Rattle.ring_core.specs.declared.events.Event.TheVariants.{Handle}
use Rattle.ring_core.specs.declared.events.Reason.{Reason}
use Rattle.ring_core.specs.declared.runs.Verdict.{Verdict}
use Rattle.ring_core.specs.declared.runs.RunError.{RunError}
use Rattle.ring_core.specs.declared.runs.RunError.TheVariants.{NotLegal, OutOfMemory}
use Rattle.ring_core.specs.World.{Seen, rank_of, is_over, queued_in, on_way_in}
use Rattle.ring_core.specs.Step.{refused, after}

-- the world that the events leave, one after the other
abbrev pub after_all : Seen → List Event → Seen
after_all world [] = world
after_all world (event ∷ events) = after_all (after world event) events

-- the events are a run from this world
abbrev pub IsRun : Seen → List Event → Type 0
IsRun world [] = Unit {0}
IsRun world (event ∷ events) = (refused world event ≡ None) × IsRun (after world event) events

-- the events before place `at` are a run, and the one at this place is refused in the world that they leave
pub record StopsAt (world : Seen) (events : List Event) (at : ℕ) (reason : Reason) : Type 0 where
  pub before : IsRun world (take at events)
  pub here : option_and_then (refused (after_all world (take at events))) (slice_get events at) ≡ Some reason

-- the cause of an answer other than a verdict; out of memory has none
abbrev pub HasCause : Seen → List Event → RunError → Type 0
HasCause world events (NotLegal at reason) = StopsAt world events at reason
HasCause world events OutOfMemory = Unit {0}

abbrev pub is_handle : Event → Bool
is_handle (Handle rank path kids) = true
is_handle _ = false

-- how many new strings came with the event
abbrev pub pushed : Event → ℕ
pushed (Handle rank path kids) = kids
pushed _ = 0

-- the verdict on the world at the end of a run in which so many strings were handled
abbrev pub verdict_of : Seen → ℕ → Verdict
verdict_of world handled = record { over = is_over world.1; queued = queued_in world.0; on_way = on_way_in world.0; handled = handled }

-- a mailbox that is full holds a string
abbrev pub HoldsSome : Desk → Type 0
HoldsSome (Full by count) = 0 < count
HoldsSome _ = Unit {0}

-- no batch on the way is empty
abbrev pub NoEmptyBatch : List RankState → Type 0
NoEmptyBatch ranks = (r : ℕ) → HoldsSome (rank_of ranks r).desk
