-- The results of the steps of a turn. Our own.
use Rattle.std.specs.Prelude.{◌≡◌, ◌≢◌, ℕ, ◌+◌, ◌^◌, ◌<◌, Bool, true, false, All, List, length, [], ◌∷◌, ◌++◌, Option, None}
use Rattle.ring_core.specs.declared.events.Event.TheVariants.{Handle}
use Rattle.post_board.specs.Shown.{Strings, Shown}
use Rattle.post_board.specs.Told.{Told}
use Rattle.post_board.specs.Deeds.{see_over, stop}
use Rattle.post_board.specs.declared.answers.Ring.{Ring}
use Rattle.post_board.specs.declared.answers.Ring.TheVariants.{Over}
use Rattle.circle_run.specs.Balance.{Log}
use Rattle.circle_run.specs.Moves.{Move, handled, served, did, noted}
use Rattle.circle_run.specs.Choices.{Choice, Chosen, halt_if, Closes, Chooses}
use Rattle.circle_run.specs.declared.settings.Options.{Options}
use Rattle.circle_run.specs.Ranks.{Knows, ServesNone, Went}
use Rattle.circle_run.specs.Turns.{IsAct, IsTurn}
use Rattle.circle_run.specs.Private.Books.{Writes}
use Rattle.circle_run.specs.declared.steps.Did.{Did}
use Rattle.circle_run.specs.declared.steps.Did.TheVariants.{Handled, Acted, Waited, Stopped}
use Rattle.circle_run.specs.declared.ranks.Turn.{Turn}
use Rattle.circle_run.specs.declared.ranks.Turn.TheVariants.{Went as TurnWent, Waited as TurnWaited, Stopped as TurnStopped}
use Rattle.circle_run.specs.declared.ranks.Rank.{Rank}

-- the ring was read: if all is over, the rank has seen the end
abbrev pub Heard : Ring → List Move → Type 0
Heard Over moves = moves ≡ did see_over ∷ []
Heard _ moves = moves ≡ []

-- one move, or none if the rank waits
abbrev pub Acts : Did → List Move → Type 0
Acts Handled moves = (path : List ℕ) × (kids : Strings) × (moves ≡ handled path kids ∷ [])
Acts Acted moves = (move : Move) × IsAct move × (moves ≡ move ∷ [])
Acts Waited moves = moves ≡ []
Acts Stopped moves = moves ≡ noted stop ∷ []

-- a service, of some ranks or of none, in which the rank gives or refuses all
pub record Served (gives some : Bool) (moves : List Move) : Type 0 where
  pub answers : List (ℕ × Strings)
  pub are : moves ≡ served answers ∷ []
  pub none : some ≡ false → answers ≡ []
  pub any : some ≡ true → 0 < length answers
  pub refused : gives ≡ false → All (λ a. a.1 ≡ []) answers

-- the rank told all to halt, or did nothing
abbrev pub Halts : Bool → List Move → Type 0
Halts due moves = moves ≡ halt_if due

-- a rank tells all to halt if it handled a string and has then handled all that it may
abbrev pub halts_by : Did → Bool → Bool
halts_by Handled due = due
halts_by Acted due = false
halts_by Waited due = false
halts_by Stopped due = false

-- the action of a rank in its whole turn, whether some asked it or none
abbrev pub with_service : Bool → Did → Did
with_service some Handled = Handled
with_service some Acted = Acted
with_service true Waited = Acted
with_service false Waited = Waited
with_service some Stopped = Stopped

abbrev pub turn_of : Did → Turn
turn_of Handled = TurnWent
turn_of Acted = TurnWent
turn_of Waited = TurnWaited
turn_of Stopped = TurnStopped

-- how many strings a rank has handled in all after this, if it had handled so many
abbrev pub tallied : Did → ℕ → ℕ
tallied Handled strings = strings + 1
tallied Acted strings = strings
tallied Waited strings = strings
tallied Stopped strings = strings

-- the action is the move of the choice
pub record Follows (done : Did) (me : ℕ) (c : Choice) (moves : List Move) : Type 0 where
  pub acts : Acts done moves
  pub chosen : Chosen me c moves

-- the action is the last of a rank that is to halt
pub record Ends (done : Did) (me : ℕ) (asked : Option ℕ) (moves : List Move) : Type 0 where
  pub acts : Acts done moves
  pub closes : Closes me asked moves

-- the whole turn of a rank that is to halt
pub record WoundUp (done : Did) (o : Options) (me : ℕ) (first : Bool) (asked : Option ℕ) (moves : List Move) : Type 0 where
  pub kind : IsTurn false (turn_of done) moves
  pub answers : List (ℕ × Strings)
  pub next : List Move
  pub are : moves ≡ halt_if first ++ served answers ∷ next
  pub refuses : o.stop_after ≢ None → All (λ a. a.1 ≡ []) answers
  pub closes : Closes me asked next

module _ {J S T P : Type 0} (shows : S → Shown) (seats : P → S → Type 0) where
  -- a rank that goes on at its board: it knows what its seat shows, serves nobody, and has neither seen the end nor stopped
  pub record AtWork (r : Rank J S T) (p : P) : Type 0 where
    pub seat : seats p r.seat
    pub knows : Knows shows r
    pub none : ServesNone shows r
    pub live : r.ended ≡ false
    pub going : r.stopped ≡ false

module _ {J S T P : Type 0} (heard : J → Option (List ℕ)) (shows : S → Shown) (tells : P → Option Told) where
  -- the actions at the board in a turn before the end
  pub record Works (done : Did) (r : Rank J S T) (p : P) (r' : Rank J S T) (moves : List Move) : Type 0 where
    pub kind : IsTurn false (turn_of done) moves
    pub chosen : Chooses heard shows tells r p r' moves

module _ {J S T P Q : Type 0} (log : J → Log) (plain : J → Q) (shows : S → Shown) (tells : P → Option Told) (seats : P → S → Type 0) where
  -- the result of a rank's step. Unless the rank ran out of memory, it is moves of this kind
  pub record Came (kind : List Move → Type 0) (r : Rank J S T) (p : P) (r' : Rank J S T) (p' : P) : Type 0 where
    pub knows : Knows shows r'
    pub mine : seats p' r'.seat
    pub none : ServesNone shows r'
    pub others : (other : S) → (shows other).number ≢ r.me → seats p other → seats p' other
    -- a board that tells nothing is the same value
    pub still : tells p ≡ None → p' ≡ p
    pub me : r'.me ≡ r.me
    pub options : r'.options ≡ r.options
    pub sums_seat : r'.sums_seat ≡ r.sums_seat
    pub sums : r'.book.sums ≡ r.book.sums
    pub facts : plain r'.job ≡ plain r.job
    pub lost : r.book.lost ≡ true → r'.book.lost ≡ true
    pub went : r'.book.lost ≡ false → Went log plain shows tells seats kind r p r' p'

module _ {J S T Q : Type 0} (log : J → Log) (plain : J → Q) where
  -- the newest string was handled, and the strings pushed for it were queued
  pub record Newest (r r' : Rank J S T) : Type 0 where
    pub path : List ℕ
    pub kids : List (List ℕ)
    pub rest : List (List ℕ)
    pub newest : r.queue ≡ rest ++ path ∷ []
    pub pushed : r'.queue ≡ rest ++ kids
    pub few : length (rest ++ kids) < 2 ^ 64
    pub logged : log r'.job ≡ log r.job ++ (path, kids) ∷ []
    pub writes : Writes r.options.trace (Handle r.me path (length kids) ∷ []) r.book r'.book

  pub record HandledNewest (r r' : Rank J S T) : Type 0 where
    pub same : r' ≡ record r { job = r'.job; queue = r'.queue; fresh = r'.fresh; book = r'.book }
    pub empty : r'.fresh ≡ []
    pub facts : plain r'.job ≡ plain r.job
    pub sums : r'.book.sums ≡ r.book.sums
    pub lost : r.book.lost ≡ true → r'.book.lost ≡ true
    pub done : r'.book.lost ≡ false → Newest r r'
