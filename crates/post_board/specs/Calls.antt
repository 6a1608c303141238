-- The seat after each call of a board, and the facts that the call gives. Our own.
use Rattle.std.specs.Prelude.{◌≡◌, ◌≢◌, ℕ, ◌<◌, ◌⊎◌, nat_lt, true, false, if◌then◌else◌, List, length, [], slice_set, slice_index_or, Option, Some, None}
use Rattle.std.specs.List.{Contains}
use Rattle.std.specs.List.Sorted.{IsPermutation}
use Rattle.ring_core.specs.World.{is_over}
use Rattle.ring_core.specs.Step.{is_at}
use Rattle.ring_core.specs.declared.states.Colour.TheVariants.{White, Black}
use Rattle.ring_core.specs.declared.states.Token.TheVariants.{At}
use Rattle.post_board.specs.Shown.{Strings, Batches, Shown, is_served, victim_of, with_given, with_taken}
use Rattle.post_board.specs.Told.{asked, Told, place, is_full, is_stopped}
use Rattle.post_board.specs.Deeds.{take, take_none, see_over, Tells, Stays, withdraw, TellsLate}
use Rattle.post_board.specs.declared.answers.Answer.{Answer}
use Rattle.post_board.specs.declared.answers.Answer.TheVariants.{Pending, Nothing, Work}
use Rattle.post_board.specs.declared.answers.Ring.{Ring}
use Rattle.post_board.specs.declared.answers.Ring.TheVariants.{Elsewhere, Here, Over, Halted}

abbrev pub asking : Shown → ℕ → Shown
asking s victim = record s { busy = false; asked = Some victim }

abbrev pub answered : Shown → Answer → Shown
answered s Pending = s
answered s Nothing = record s { asked = None; tried = true }
answered s (Work batch) = record s { asked = None; busy = true; tried = false; batches = with_taken s.batches (victim_of s) batch }

-- a request to a rank that has stopped is taken back, unless that one had answered it
abbrev pub AnswerTold : Shown → Answer → Option Told → Option Told → Type 0
AnswerTold s Pending before after = Stays (λ t. ((place t s.number).mail ≡ asked (victim_of s)) × (is_stopped t (victim_of s) ≡ false)) before after
AnswerTold s Nothing before after = Tells s.number (take_none (victim_of s)) before after ⊎ TellsLate s.number (withdraw (victim_of s)) before after
AnswerTold s (Work batch) before after = Tells s.number (take (victim_of s) batch) before after

abbrev pub serving : Shown → Option ℕ → Shown
serving s None = s
serving s (Some r) = record s { serves = slice_set s.serves r true }

-- of the first k ranks none asks this one, except those that it serves already
abbrev pub NoneAsks : Shown → ℕ → Told → Type 0
NoneAsks s k t = (r : ℕ) → r < k → r ≢ s.number → (place t r).mail ≡ asked s.number → is_served s r ≡ true

abbrev pub Found : Shown → Option ℕ → Type 0
Found s None = Unit {0}
Found s (Some r) = (r < s.n) × (r < length s.serves) × (r ≢ s.number) × (is_served s r ≡ false)

abbrev pub LookedFor : Shown → Option ℕ → Told → Type 0
LookedFor s None t = NoneAsks s s.n t
LookedFor s (Some r) t = ((place t r).mail ≡ asked s.number) × NoneAsks s r t

abbrev pub served : Shown → ℕ → Shown
served s to = record s { serves = slice_set s.serves to false }

abbrev pub given : Shown → ℕ → Strings → Shown
given s to batch = record (served s to) { colour = (if nat_lt s.number to then Black else s.colour); batches = with_given s.batches to batch }

abbrev pub hearing : Shown → Ring → Shown
hearing s Elsewhere = record s { here = None }
hearing s (Here colour) = record s { here = Some colour }
hearing s Over = record s { here = None; ended = true }
hearing s Halted = record s { here = None; knows_halt = true }

abbrev pub RingTold : Shown → Ring → Option Told → Option Told → Type 0
RingTold s Elsewhere before after = Stays (λ t. (is_at t.token s.number ≡ false) × (is_over t.token ≡ false) × (t.halt ≡ false)) before after
RingTold s (Here colour) before after = Stays (λ t. (t.token ≡ At s.number colour) × (t.halt ≡ false)) before after
RingTold s Over before after = Tells s.number see_over before after
RingTold s Halted before after = Stays (λ t. (is_over t.token ≡ false) × (t.halt ≡ true)) before after

abbrev pub passed : Shown → Shown
passed s = record s { colour = White; here = None }

abbrev pub restarted : Shown → Shown
restarted s = record s { colour = White; here = None; busy = false }

abbrev pub concluded : Shown → Shown
concluded s = record s { here = None; ended = true }

abbrev pub halting : Shown → Shown
halting s = record s { halted = true }

abbrev pub stopping : Shown → Shown
stopping s = record s { stopped = true }

-- no mailbox holds a batch
abbrev pub NoneOnTheWay : Told → Type 0
NoneOnTheWay t = (r : ℕ) → is_full (place t r).mail ≡ false

-- the batches that j took from i are those that i gave to j
abbrev pub Even : Option Batches → ℕ → Option Batches → ℕ → Type 0
Even (Some x) i (Some y) j = slice_index_or y.taken i [] ≡ slice_index_or x.given j []
Even _ i _ j = Unit {0}

module _ {S : Type 0} (shows : S → Shown) (seats : S → Type 0) where
  -- the seats of all ranks by their numbers, each ended or stopped, and serving nobody
  abbrev pub ByNumber : List S → Type 0
  ByNumber ranks = (k : ℕ) (d : S) → k < length ranks → let s = shows (slice_index_or ranks k d) in
      seats (slice_index_or ranks k d) × (s.number ≡ k) × (s.n ≡ length ranks) × ((s.ended ≡ true) ⊎ (s.stopped ≡ true))
      × ((r : ℕ) → is_served s r ≡ false)

  -- the same seats in any order
  pub record AllDone (all : List S) : Type 0 where
    pub ranks : List S
    pub by_number : ByNumber ranks
    pub same : IsPermutation ranks all

  -- for each two seats, the batches that one rank took from the other are those that the other gave
  abbrev pub AllEven : List S → Type 0
  AllEven all = (x y : S) → Contains all x → Contains all y → Even (shows x).batches (shows x).number (shows y).batches (shows y).number

  -- if one knows that all are to halt, one told them so
  abbrev pub Halters : List S → Type 0
  Halters all = (k : ℕ) (d : S) → k < length all → (shows (slice_index_or all k d)).knows_halt ≡ true
      → (j : ℕ) × (j < length all) × ((shows (slice_index_or all j d)).halted ≡ true)

-- the board tells of the seat's rank the facts that the seat shows
pub record Agrees (t : Told) (s : Shown) : Type 0 where
  pub ranks : length t.places ≡ s.n
  pub within : s.number < length t.places
  pub busy : (place t s.number).busy ≡ s.busy
  pub colour : (place t s.number).colour ≡ s.colour
  pub tried : (place t s.number).tried ≡ s.tried
  pub ended : (place t s.number).ended ≡ s.ended
  pub stopped : is_stopped t s.number ≡ s.stopped

abbrev pub AgreesIfTold : Option Told → Shown → Type 0
AgreesIfTold None s = Unit {0}
AgreesIfTold (Some t) s = Agrees t s
