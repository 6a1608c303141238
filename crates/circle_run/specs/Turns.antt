-- The moves of a turn by its result, the causes of waiting, and the numbers shown at the sums. Our own; the sums are libcircle's (SC 2012).
use Rattle.std.specs.Prelude.{◌≡◌, ℕ, ◌+◌, ◌<◌, ◌⊎◌, Bool, true, false, List, length, [], ◌∷◌, Option, Some, None}
use Rattle.post_board.specs.Shown.{Strings}
use Rattle.post_board.specs.Told.{Told, asked, place}
use Rattle.post_board.specs.Deeds.{Deed, see_over, withdraw, halt, stop}
use Rattle.sum_tree.specs.Shown.{SumShown}
use Rattle.sum_tree.specs.Told.{SumTold, words_below}
use Rattle.circle_run.specs.Moves.{Move, handled, served, did, noted}
use Rattle.circle_run.specs.Choices.{halt_if}
use Rattle.circle_run.specs.declared.steps.Did.{Did}
use Rattle.circle_run.specs.declared.steps.Did.TheVariants.{Handled, Acted, Waited, Stopped}
use Rattle.circle_run.specs.declared.ranks.Turn.{Turn}
use Rattle.circle_run.specs.declared.ranks.Turn.TheVariants.{Went as TurnWent, Waited as TurnWaited, Stopped as TurnStopped, Ended as TurnEnded}

-- if the board is told, the rank waits for an answer to its request
abbrev pub Waits : ℕ → Option Told → Type 0
Waits me None = Unit {0}
Waits me (Some t) = (victim : ℕ) × ((place t me).mail ≡ asked victim)

-- a word adds up: it is the rank's own count and the told words of the ranks below it
abbrev pub AddsUp : SumShown → SumTold → Type 0
AddsUp s t = s.word ≡ s.count + words_below t s.number

-- it asks, takes the answer, moves the token, or takes its request back
abbrev pub IsAct : Move → Type 0
IsAct move = ((deed : Deed) × (move ≡ did deed)) ⊎ ((from : ℕ) × (move ≡ noted (withdraw from)))

-- Handled: a service and then a string handled, after which the rank may tell all to halt. Acted: it saw the end, or made a service and then
-- its act, or a service of some. Waited: nothing, and nobody asked. Stopped: a service and then the stop
abbrev pub Worked : Did → List Move → Type 0
Worked Handled moves =
    (answers : List (ℕ × Strings)) × (path : List ℕ) × (kids : Strings) × (due : Bool) × (moves ≡ served answers ∷ handled path kids ∷ halt_if due)
Worked Acted moves =
    (moves ≡ did see_over ∷ [])
    ⊎ (((answers : List (ℕ × Strings)) × (move : Move) × IsAct move × (moves ≡ served answers ∷ move ∷ []))
    ⊎ ((answers : List (ℕ × Strings)) × (0 < length answers) × (moves ≡ served answers ∷ [])))
Worked Waited moves = moves ≡ served [] ∷ []
Worked Stopped moves = (answers : List (ℕ × Strings)) × (moves ≡ served answers ∷ noted stop ∷ [])

-- these moves, before which the rank may tell all to halt
abbrev pub MayHalt : (List Move → Type 0) → List Move → Type 0
MayHalt P moves = P moves ⊎ ((rest : List Move) × P rest × (moves ≡ noted halt ∷ rest))

-- the moves of a turn, by whether the rank was done before
abbrev pub IsTurn : Bool → Turn → List Move → Type 0
IsTurn true turn moves = moves ≡ []
IsTurn false TurnWent moves = Worked Handled moves ⊎ MayHalt (Worked Acted) moves
IsTurn false TurnWaited moves = MayHalt (Worked Waited) moves
IsTurn false TurnStopped moves = MayHalt (Worked Stopped) moves
IsTurn false TurnEnded moves = ⊥
