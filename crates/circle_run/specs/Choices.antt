-- Which move a rank makes once all that ask it have their answers.
-- A rank works on its own strings and asks another once it has none: LaFon, Misra and Bringhurst, On Distributed File Tree Walk of Parallel
-- File Systems (SC 2012). Only an idle rank moves the token: EWD840. The order of these is our own, and so is the rule that a rank was
-- refused once before it moves the token.
use Rattle.std.specs.Prelude.{◌≡◌, ◌≢◌, ℕ, zero, suc, ◌-◌, ◌==◌, ◌||◌, ◌&&◌, not, ◌⊎◌, nat_le, Bool, true, false, if◌then◌else◌, All, List, length}
use Rattle.std.specs.Prelude.{[], ◌∷◌, ◌++◌}
use Rattle.std.specs.Prelude.{Option, Some, None}
use Rattle.std.specs.List.{flat_map}
use Rattle.std.specs.Option.{option_map}
use Rattle.ring_core.specs.World.{darker}
use Rattle.ring_core.specs.declared.states.Colour.{Colour}
use Rattle.ring_core.specs.declared.states.Colour.TheVariants.{White, Black}
use Rattle.ring_core.specs.declared.states.Token.{Token}
use Rattle.ring_core.specs.declared.states.Token.TheVariants.{At, Over}
use Rattle.post_board.specs.Shown.{Strings, Shown}
use Rattle.post_board.specs.Told.{Told}
use Rattle.post_board.specs.Deeds.{Deed, ask, take, take_none, pass, restart, conclude, see_over, withdraw, halt, stop}
use Rattle.post_board.specs.declared.answers.Ring.{Ring}
use Rattle.post_board.specs.declared.answers.Ring.TheVariants.{Elsewhere, Here, Over as HeardOver, Halted as HeardHalted}
use Rattle.circle_run.specs.Moves.{Move, handled, served, did, noted}
use Rattle.circle_run.specs.declared.settings.Options.{Options}
use Rattle.circle_run.specs.declared.ranks.Rank.{Rank}

-- the facts by which a rank chooses
pub record Standing : Type 0 where
  -- the strings that wait at it, oldest first
  pub queue : Strings
  -- the rank that it asked, if it has not taken the answer yet
  pub asked : Option ℕ
  -- its last request was refused
  pub tried : Bool
  -- the ring as it read it
  pub ring : Ring

pub data Choice : Type 0 where
  -- to handle the newest string
  to_handle : Choice
  -- to look for the answer of this rank
  to_look : ℕ → Choice
  -- to move the token on, which is here with this colour
  to_move : Colour → Choice
  -- to ask another rank
  to_ask : Choice

-- an idle rank of n moves the token that is here once it was refused, or if it is the only one; else it asks
abbrev pub token_or_ask : ℕ → Bool → Ring → Choice
token_or_ask n tried (Here held) = if tried || n == 1 then to_move held else to_ask
token_or_ask n tried _ = to_ask

-- without a string it looks for the answer to its open request first
abbrev pub look_or_on : ℕ → Option ℕ → Bool → Ring → Choice
look_or_on n (Some victim) tried ring = to_look victim
look_or_on n None tried ring = token_or_ask n tried ring

-- the first that applies: a string that waits is handled before all else
abbrev pub handle_or_on : Strings → Choice → Choice
handle_or_on [] idle = idle
handle_or_on (s ∷ queue) idle = to_handle

abbrev pub choice : ℕ → Standing → Choice
choice n x = handle_or_on x.queue (look_or_on n x.asked x.tried x.ring)

-- the rank me moves the token on with this colour. Rank 0 ends the run if it is white, and else sends it round once more
abbrev pub moved_on : ℕ → Colour → Deed
moved_on zero White = conclude
moved_on zero Black = restart
moved_on (suc r) colour = pass colour

-- the moves of a choice. If the answer has not come there is none, and a request to a rank that has stopped is taken back
abbrev pub Chosen : ℕ → Choice → List Move → Type 0
Chosen me to_handle moves = (path : List ℕ) × (kids : Strings) × (moves ≡ handled path kids ∷ [])
Chosen me (to_look victim) moves =
    (moves ≡ [])
    ⊎ ((moves ≡ did (take_none victim) ∷ [])
    ⊎ ((moves ≡ noted (withdraw victim) ∷ [])
    ⊎ ((batch : Strings) × (moves ≡ did (take victim batch) ∷ []))))
Chosen me (to_move held) moves = (own : Colour) × (moves ≡ did (moved_on me (darker own held)) ∷ [])
Chosen me to_ask moves = (victim : ℕ) × (moves ≡ did (ask victim) ∷ [])

-- the ring as the rank me reads it while the token is so, and all are to halt or not
abbrev pub ring_of : ℕ → Token → Bool → Ring
ring_of me Over called = HeardOver
ring_of me (At place colour) true = HeardHalted
ring_of me (At place colour) false = if place == me then Here colour else Elsewhere

-- if the token is told, the rank me reads this of the ring
abbrev pub IsRing : ℕ → Option Told → Ring → Type 0
IsRing me None ring = Unit {0}
IsRing me (Some t) ring = ring ≡ ring_of me t.token t.halt

-- the colour of the token, if it was read here
abbrev pub held_of : Ring → Option Colour
held_of (Here colour) = Some colour
held_of _ = None

-- the same once the choice was made: a rank that moves the token on no longer has it
abbrev pub held_after : Choice → Ring → Option Colour
held_after (to_move held) ring = None
held_after _ ring = held_of ring

-- the numbers that the job heard, if it keeps them: with a string it hears how many others wait
abbrev pub heard_after : Choice → ℕ → Option (List ℕ) → Option (List ℕ)
heard_after to_handle waiting heard = option_map (λ numbers. numbers ++ waiting ∷ []) heard
heard_after _ waiting heard = heard

-- whether a rank tells all to halt once it has done this: by handling a string it came to all that it may handle
abbrev pub halts_after : Choice → Bool → Bool
halts_after to_handle due = due
halts_after _ due = false

-- the rank tells all to halt, or does nothing
abbrev pub halt_if : Bool → List Move
halt_if true = noted halt ∷ []
halt_if false = []

-- a service of all that ask, and then the first that applies. Afterwards the rank has handled all that it may, or has not
pub record Goes (n me : ℕ) (x : Standing) (due' : Bool) (held' : Option Colour) (heard heard' : Option (List ℕ)) (moves : List Move) : Type 0 where
  pub answers : List (ℕ × Strings)
  pub next : List Move
  -- the strings that wait after the service
  pub left : Strings
  pub are : moves ≡ served answers ∷ next ++ halt_if (halts_after (choice n (record x { queue = left })) due')
  pub oldest : x.queue ≡ flat_map (λ a. a.1) answers ++ left
  pub chosen : Chosen me (choice n (record x { queue = left })) next
  pub held_is : held' ≡ held_after (choice n (record x { queue = left })) x.ring
  pub heard_is : heard' ≡ heard_after (choice n (record x { queue = left })) (length left - 1) heard

-- a rank that has handled so many strings has handled all that it may
abbrev pub is_due : Option ℕ → ℕ → Bool
is_due None count = false
is_due (Some k) count = nat_le k count

abbrev pub is_halt : Ring → Bool
is_halt HeardHalted = true
is_halt _ = false

-- the last move of a rank that is to halt: if it asked, it looks for the answer; else it stops
abbrev pub Closes : ℕ → Option ℕ → List Move → Type 0
Closes me (Some victim) moves = Chosen me (to_look victim) moves
Closes me None moves = moves ≡ noted stop ∷ []

-- the turn of a rank that is to halt: a service in which it gives nothing, and its last move. It may have to tell all first. Strings that come
-- are queued
pub record WindsUp (o : Options) (me : ℕ) (first : Bool) (asked : Option ℕ) (heard heard' : Option (List ℕ)) (moves : List Move) : Type 0 where
  pub answers : List (ℕ × Strings)
  pub next : List Move
  pub are : moves ≡ halt_if first ++ served answers ∷ next
  pub refuses : o.stop_after ≢ None → All (λ a. a.1 ≡ []) answers
  pub closes : Closes me asked next
  pub heard_is : heard' ≡ heard

module _ {J S T : Type 0} where
  abbrev pub standing : Ring → Rank J S T → Standing
  standing ring r = record { queue = r.queue; asked = r.asked; tried = r.tried; ring = ring }

  -- it has handled all that it may
  abbrev pub has_done_all : Rank J S T → Bool
  has_done_all r = is_due r.options.stop_after r.book.share.handled

  -- it is to halt: it has handled all that it may, or reads a halt
  abbrev pub is_to_halt : Ring → Rank J S T → Bool
  is_to_halt ring r = has_done_all r || is_halt ring

  -- it has handled all that it may and reads of no halt: it may handle no string at all
  abbrev pub tells_first : Ring → Rank J S T → Bool
  tells_first ring r = has_done_all r && not (is_halt ring)

  -- it does nothing more at the board: it has seen the end, or has stopped
  abbrev pub is_done : Rank J S T → Bool
  is_done r = r.ended || r.stopped

module _ {J S T P : Type 0} (heard : J → Option (List ℕ)) (shows : S → Shown) (tells : P → Option Told) where
  -- which moves a rank makes in a turn before it is done, by the ring that it reads. If all is over it sees that, and does nothing else. The ring
  -- is told, or else the seat shows it of the token afterwards
  pub record Chooses (r : Rank J S T) (p : P) (r' : Rank J S T) (moves : List Move) : Type 0 where
    pub ring : Ring
    pub is : IsRing r.me (tells p) ring
    pub over : ring ≡ HeardOver → (moves ≡ did see_over ∷ []) × (r'.ended ≡ true) × (heard r'.job ≡ heard r.job)
    pub goes : ring ≢ HeardOver → is_to_halt ring r ≡ false
        → Goes r.options.ranks r.me (standing ring r) (has_done_all r') (shows r'.seat).here (heard r.job) (heard r'.job) moves
    pub winds : ring ≢ HeardOver → is_to_halt ring r ≡ true
        → WindsUp r.options r.me (tells_first ring r) r.asked (heard r.job) (heard r'.job) moves
