-- A plain board: the picture that it tells, the facts that its seats show, and which seats are its own. Our own.
use Rattle.std.specs.Prelude.{◌≡◌, ◌≢◌, ℕ, ◌<◌, ◌≤◌, ◌==◌, Bool, true, false, List, length, map, slice_index_or, replicate, Option, Some, None}
use Rattle.ring_core.specs.declared.states.Colour.{Colour}
use Rattle.ring_core.specs.declared.states.Colour.TheVariants.{White, Black}
use Rattle.ring_core.specs.declared.states.Token.{Token}
use Rattle.ring_core.specs.declared.states.Token.TheVariants.{At, Over}
use Rattle.post_board.specs.Shown.{Shown}
use Rattle.post_board.specs.Told.{Mail, vacant, asked, full, empty, Place, Told, Sound}
use Rattle.post_board.specs.Words.{has_bit}
use Rattle.post_board.specs.declared.plain_ranks.PlainMailbox.{PlainMailbox}
use Rattle.post_board.specs.declared.plain_ranks.PlainMailbox.TheVariants.{Rest, Wants, Served, Holds, Refused}
use Rattle.post_board.specs.declared.plain_ranks.PlainRank.{PlainRank}
use Rattle.post_board.specs.declared.plain_seats.PlainSeat.{PlainSeat}
use Rattle.post_board.specs.declared.plain_boards.PlainBoard.{PlainBoard}

-- a board does not tell whether the request was taken up
abbrev pub mail_of : PlainMailbox → Mail
mail_of Rest = vacant
mail_of (Wants r) = asked r
mail_of (Served r) = asked r
mail_of (Holds r batch) = full r batch
mail_of (Refused r) = empty r

abbrev pub place_of : PlainRank → Place
place_of x = record { busy = x.busy; colour = x.colour; tried = x.tried; ended = x.ended; mail = mail_of x.mailbox }

abbrev pub told_of : List PlainRank → Token → Told
told_of ranks token = record { places = map place_of ranks; token = token; halt = false; stops = replicate (length ranks) false }

abbrev pub is_some : Option ℕ → Bool
is_some None = false
is_some (Some r) = true

-- the same with the rank that told all to halt, and the ranks that have stopped
abbrev pub worded : Option ℕ → List Bool → Told → Told
worded halter stops t = record t { halt = is_some halter; stops = stops }

abbrev pub told_by : PlainBoard → Told
told_by b = worded b.halter b.stops.items (told_of b.ranks.items b.token)

abbrev pub no_rank : PlainRank
no_rank = record { busy = false; colour = White; tried = false; ended = false; mailbox = Rest }

-- a rank that has done nothing yet
abbrev pub fresh_rank : PlainRank
fresh_rank = record { busy = true; colour = White; tried = false; ended = false; mailbox = Rest }

abbrev pub plain : List PlainRank → ℕ → PlainRank
plain ranks r = slice_index_or ranks r no_rank

-- the mailbox asks this rank, which has not taken it up
abbrev pub wants : PlainMailbox → ℕ → Bool
wants (Wants r) of = r == of
wants _ of = false

-- black if there is no token any more
abbrev pub token_colour : Token → Colour
token_colour (At r colour) = colour
token_colour Over = Black

abbrev pub shown_by : PlainSeat → Shown
shown_by s =
    record {
      number = s.number;
      n = s.n;
      busy = s.busy;
      colour = s.colour;
      tried = s.tried;
      asked = s.asked;
      serves = s.serves.items;
      here = s.here;
      ended = s.ended;
      halted = s.halted;
      knows_halt = s.knows_halt;
      stopped = s.stopped;
      batches = None;
    }

-- a seat is right about its own mailbox
abbrev pub OwnFits : Option ℕ → PlainMailbox → Type 0
OwnFits None m = m ≡ Rest
OwnFits (Some v) Rest = ⊥
OwnFits (Some v) (Wants r) = r ≡ v
OwnFits (Some v) (Served r) = r ≡ v
OwnFits (Some v) (Holds r batch) = r ≡ v
OwnFits (Some v) (Refused r) = r ≡ v

-- it is right about the token
abbrev pub HereFits : Option Colour → ℕ → Token → Type 0
HereFits None r token = Unit {0}
HereFits (Some c) r token = token ≡ At r c

abbrev pub Match : PlainRank → PlainSeat → Type 0
Match x s = (x.busy ≡ s.busy) × (x.colour ≡ s.colour) × (x.tried ≡ s.tried) × (x.ended ≡ s.ended) × OwnFits s.asked x.mailbox

-- all knowledge of a seat is right
pub record Fits (ranks : List PlainRank) (token : Token) (s : PlainSeat) : Type 0 where
  pub inside : s.number < length ranks
  pub sized : s.n ≡ length ranks
  pub wide : length s.serves.items ≡ length ranks
  pub matches : Match (plain ranks s.number) s
  pub away : (v : ℕ) → s.asked ≡ Some v → (v < length ranks) × (v ≢ s.number)
  pub serves : (r : ℕ) → slice_index_or s.serves.items r false ≡ true → (plain ranks r).mailbox ≡ Served s.number
  pub served : (r : ℕ) → (plain ranks r).mailbox ≡ Served s.number → slice_index_or s.serves.items r false ≡ true
  pub here : HereFits s.here s.number token

-- the masks tell which mailboxes ask which rank
pub record Noted (ranks : List PlainRank) (masks : List ℕ) : Type 0 where
  pub count : length masks ≡ length ranks
  pub few : length ranks ≤ 64
  pub asks : (r of : ℕ) → of < length ranks → wants (plain ranks r).mailbox of ≡ has_bit (slice_index_or masks of 0) r

-- a board that has a seat is sound
abbrev pub IsSeat : List PlainRank → Token → PlainSeat → Type 0
IsSeat ranks token s = Fits ranks token s × Sound (told_of ranks token)

-- a rank that has stopped has not ended, its mailbox is at rest, and it serves nobody
abbrev pub Gone : List PlainRank → ℕ → Type 0
Gone ranks r = ((plain ranks r).ended ≡ false) × ((plain ranks r).mailbox ≡ Rest) × ((k : ℕ) → (plain ranks k).mailbox ≢ Served r)

-- a seat is right about the halt and its stop
pub record HaltFits (halter : Option ℕ) (stops : List Bool) (ranks : List PlainRank) (s : PlainSeat) : Type 0 where
  pub many : length stops ≡ length ranks
  pub own : slice_index_or stops s.number false ≡ s.stopped
  pub gone : (r : ℕ) → slice_index_or stops r false ≡ true → Gone ranks r
  pub halted : s.halted ≡ true → is_some halter ≡ true
  pub knows : s.knows_halt ≡ true → is_some halter ≡ true
  pub within : (r : ℕ) → halter ≡ Some r → r < length ranks
  pub by : halter ≡ Some s.number → s.halted ≡ true

abbrev pub Seats : PlainBoard → PlainSeat → Type 0
Seats b s = IsSeat b.ranks.items b.token s × Noted b.ranks.items b.askers.masks.items × HaltFits b.halter b.stops.items b.ranks.items s
