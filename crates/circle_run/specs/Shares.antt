-- The strings that each rank handled, gave and took in a run of moves. Our own.
use Rattle.std.specs.Prelude.{◌≡◌, ℕ, ◌+◌, ◌==◌, if◌then◌else◌, List, length, [], ◌∷◌, ◌++◌, map, sum_by}
use Rattle.std.specs.List.{flat_map, range_with_len}
use Rattle.ring_core.specs.declared.events.Event.{Event}
use Rattle.ring_core.specs.declared.events.Event.TheVariants.{Handle}
use Rattle.post_board.specs.Shown.{Strings}
use Rattle.post_board.specs.Deeds.{take}
use Rattle.circle_run.specs.Balance.{Log}
use Rattle.circle_run.specs.Moves.{Move, handled, served, did}
use Rattle.circle_run.specs.Stages.{Stage, rank_side, Plays, events_of_all, begun}
use Rattle.circle_run.specs.Waiting.{all_mailed}
use Rattle.circle_run.specs.declared.settings.Options.{Options}

abbrev pub handled_in : Move → Log
handled_in (handled path kids) = (path, kids) ∷ []
handled_in _ = []

abbrev pub given_in : Move → Strings
given_in (served answers) = flat_map (λ x. x.1) answers
given_in _ = []

abbrev pub taken_in : Move → Strings
taken_in (did (take from batch)) = batch
taken_in _ = []

-- the moves of the rank r, in order
abbrev pub moves_of : ℕ → List (ℕ × Move) → List Move
moves_of r [] = []
moves_of r (m ∷ moves) = (if m.0 == r then m.1 ∷ [] else []) ++ moves_of r moves

-- how many strings the rank r handled, gave and took
abbrev pub handled_by : ℕ → List (ℕ × Move) → ℕ
handled_by r moves = length (flat_map handled_in (moves_of r moves))

abbrev pub given_by : ℕ → List (ℕ × Move) → ℕ
given_by r moves = length (flat_map given_in (moves_of r moves))

abbrev pub taken_by : ℕ → List (ℕ × Move) → ℕ
taken_by r moves = length (flat_map taken_in (moves_of r moves))

-- all ranks' strings of a kind, rank after rank
abbrev pub of_all : ℕ → (Move → Strings) → List (ℕ × Move) → Strings
of_all n kind moves = flat_map (λ r. flat_map kind (moves_of r moves)) (range_with_len 0 n)

-- the log of each rank holds the strings that it handled, in order
abbrev pub LogsAreHandled : Type 0
LogsAreHandled = (o : Options) (starts : Strings) (moves : List (ℕ × Move)) (stage : Stage)
    → Plays o moves (begun o starts) stage → (r : ℕ) → (rank_side stage r).log ≡ flat_map handled_in (moves_of r moves)

-- the string of an event by which the rank r handles one, and how many came for it
abbrev pub handled_at : ℕ → Event → List (List ℕ × ℕ)
handled_at r (Handle rank path kids) = if rank == r then (path, kids) ∷ [] else []
handled_at r _ = []

-- the strings that the events say each rank handled are its log, in order
abbrev pub EventsTellLogs : Type 0
EventsTellLogs = (o : Options) (starts : Strings) (moves : List (ℕ × Move)) (stage : Stage)
    → Plays o moves (begun o starts) stage → (r : ℕ) → flat_map (handled_at r) (events_of_all moves) ≡ map (λ x. (x.0, length x.1)) (rank_side stage r).log

-- the strings that were given were taken or lie in a mailbox: whatever a string weighs, these weigh the same, and there are as many
pub record IsTakenOrMailed (o : Options) (moves : List (ℕ × Move)) (stage : Stage) : Type 0 where
  pub weighs : (weight : List ℕ → ℕ)
      → sum_by weight (of_all o.ranks given_in moves) ≡ sum_by weight (of_all o.ranks taken_in moves) + sum_by weight (all_mailed stage)
  pub counts : sum_by (λ r. given_by r moves) (range_with_len 0 o.ranks) ≡ sum_by (λ r. taken_by r moves) (range_with_len 0 o.ranks) + length (all_mailed stage)

abbrev pub GivenIsTakenOrMailed : Type 0
GivenIsTakenOrMailed = (o : Options) (starts : Strings) (moves : List (ℕ × Move)) (stage : Stage)
    → Plays o moves (begun o starts) stage → IsTakenOrMailed o moves stage
