-- The rule of a board of atomic words: all that holds between any two steps, whatever the threads do.
-- A board has the words 0 (the ring, where the token lies), r + 1 (the mailbox of rank r), n + 1 (the halt) and n + 2 (the stops, one bit a
-- rank), and the slot r, in which a batch for rank r waits.
-- The rule speaks of each rank by the knowledge of its seat (`Known`), which changes only at a step of that seat. The token, busy and colour are
-- EWD840's (Dijkstra, Feijen, van Gasteren); mailboxes, slots, halt and stops are our own.
-- The rule has three parts: `MailboxFacts` (the words and slots of mailboxes, and the history of batches), `RingFacts` (the picture with
-- the token) and `HaltFacts` (halt and stops).
use Rattle.std.specs.Prelude.{All, ◌≡◌, ◌≢◌, ℕ, ◌+◌, ◌<◌, ◌≤◌, ◌⊎◌, ◌==◌, nat_lt, Bool, true, false, if◌then◌else◌, List, [], ◌∷◌, ◌++◌, length, map}
use Rattle.std.specs.Prelude.{slice_index, slice_index_or, replicate, Option, Some, None}
use Rattle.std.specs.List.{range_with_len}
use mathlib.Core.Option.{none, some}
use mathlib.Core.Option as Core
use lib.ListN.{get_elem?}
use Rattle.atomic_table.specs.Table.{State}
use Rattle.ring_core.specs.declared.states.Colour.TheVariants.{White}
use Rattle.ring_core.specs.declared.states.Token.{Token}
use Rattle.post_board.specs.Shown.{Strings}
use Rattle.post_board.specs.Told.{Mail, vacant, asked, full as filled, empty, Place, Told}
use Rattle.post_board.specs.Reached.{Reached}
use Rattle.post_board.specs.Plain.{HereFits}
use Rattle.post_board.specs.Words.{Sign, resting, asking, serving, full, fetching, emptied, sign, token_read, has_bit}
use Rattle.post_board.specs.declared.board_views.Known.{Known}
use Rattle.post_board.specs.declared.board_views.View.{View}
use Rattle.post_board.specs.declared.board_views.OwnMailbox.{OwnMailbox}
use Rattle.post_board.specs.declared.board_views.OwnMailbox.TheVariants.{Resting, Open, Left, Filled, Emptied, Getting}

-- the content of a slot: a batch, or nothing
abbrev pub Parcel : Type 0
Parcel = Option Strings

abbrev pub TableState : Type 0
TableState = State Parcel View

-- whether it took up a request of the rank r that it has not answered
abbrev pub serves : Known → ℕ → Bool
serves v r = slice_index_or v.serves r false

-- the batches that it gave to the rank r, and those that it took from the rank r, in order
abbrev pub given : Known → ℕ → List Strings
given v r = slice_index_or v.given r []

abbrev pub taken : Known → ℕ → List Strings
taken v r = slice_index_or v.taken r []

-- the rank that an open request went to
abbrev pub asked_of : OwnMailbox → Option ℕ
asked_of Resting = None
asked_of (Open v) = Some v
asked_of (Left v) = Some v
asked_of (Filled v) = Some v
asked_of (Emptied v) = Some v
asked_of (Getting v) = Some v

-- a request to v that is open: it waits, is taken up, or is answered
abbrev pub OpenFits : ℕ → Sign → Type 0
OpenFits v d = (d ≡ asking v) ⊎ ((d ≡ serving v) ⊎ ((d ≡ full v) ⊎ (d ≡ emptied v)))

-- a rank's seat is right about its own mailbox
abbrev pub OwnFits : OwnMailbox → Sign → Type 0
OwnFits Resting d = d ≡ resting
OwnFits (Open v) d = OpenFits v d
OwnFits (Left v) d = OpenFits v d
OwnFits (Filled v) d = d ≡ full v
OwnFits (Emptied v) d = d ≡ emptied v
OwnFits (Getting v) d = d ≡ fetching v

-- the place of a mailbox's slot: with the rank that serves or empties it, else at home, with a batch if the mailbox says so
abbrev pub SlotFits : Sign → Core.Option Parcel → Type 0
SlotFits (serving i) h = h ≡ none
SlotFits (fetching i) h = h ≡ none
SlotFits (full i) h = (b : Strings) × (h ≡ some (Some b))
SlotFits _ h = h ≡ some None

-- the batches on the way from the rank i, in a mailbox and its slot
abbrev pub on_way : Sign → ℕ → Core.Option Parcel → List Strings
on_way (full k) i (some (Some b)) = if k == i then b ∷ [] else []
on_way _ i h = []

-- the asked rank is another one
abbrev pub Away : ℕ → ℕ → OwnMailbox → Type 0
Away n r o = (v : ℕ) → asked_of o ≡ Some v → (v < n) × (v ≢ r)

-- the facts of mailboxes, slots and batches
pub record MailboxFacts (n : ℕ) (known : ℕ → Known) (signs : ℕ → Sign) (slot : ℕ → Core.Option Parcel) : Type 0 where
  -- each seat knows its rank and the number of ranks, and keeps a list of that many
  pub named : (r : ℕ) → r < n → ((known r).number ≡ r) × ((known r).n ≡ n)
  pub sized : (r : ℕ) → r < n → (length (known r).serves ≡ n) × (length (known r).given ≡ n) × (length (known r).taken ≡ n)
  -- it is right about its own mailbox
  pub own : (r : ℕ) → r < n → OwnFits (known r).own (signs r)
  pub away : (r : ℕ) → r < n → Away n r (known r).own
  pub held : (r : ℕ) → r < n → SlotFits (signs r) (slot r)
  -- a mailbox says that it is served exactly where one seat knows that it serves it
  pub served : (r k : ℕ) → r < n → k < n → signs r ≡ serving k → serves (known k) r ≡ true
  pub serving_is : (r k : ℕ) → r < n → k < n → serves (known k) r ≡ true → signs r ≡ serving k
  -- the batches that j took from i, with those on the way, are those that i gave to j
  pub paired : (i j : ℕ) → i < n → j < n → taken (known j) i ++ on_way (signs j) i (slot j) ≡ given (known i) j

-- how a mailbox word reads in the picture; batches are left out
abbrev pub mail_of : Sign → Mail
mail_of resting = vacant
mail_of (asking i) = asked i
mail_of (serving i) = asked i
mail_of (full i) = filled i []
mail_of (fetching i) = vacant
mail_of (emptied i) = empty i

abbrev pub place_of : Known → Sign → Place
place_of v d = record { busy = v.busy; colour = v.colour; tried = v.tried; ended = v.ended; mail = mail_of d }

-- n ranks, of which each is told as f says
abbrev pub sheet : ℕ → (ℕ → Place) → Token → Told
sheet n f token = record { places = map f (range_with_len 0 n); token = token; halt = false; stops = replicate n false }

-- the picture of a board: the knowledge of its seats, its mailboxes and its token
abbrev pub told_of : ℕ → (ℕ → Known) → (ℕ → Sign) → Token → Told
told_of n known signs token = sheet n (λ r. place_of (known r) (signs r)) token

-- the picture came about by legal deeds alone, and a seat that knows the token here is right
pub record RingFacts (n : ℕ) (known : ℕ → Known) (signs : ℕ → Sign) (token : Token) : Type 0 where
  pub reached : Reached n (told_of n known signs token)
  pub here : (r : ℕ) → r < n → HereFits (known r).here r token

-- the facts of the halt and the stops
pub record HaltFacts (n : ℕ) (known : ℕ → Known) (halt : Bool) (stops : ℕ → Bool) : Type 0 where
  -- if a rank told all to halt or knows of it, the halt is set, and one rank set it
  pub halted : (r : ℕ) → r < n → (known r).halted ≡ true → halt ≡ true
  pub knows : (r : ℕ) → r < n → (known r).knows_halt ≡ true → halt ≡ true
  pub by_one : halt ≡ true → (r : ℕ) × (r < n) × ((known r).halted ≡ true)
  -- the bits of the stops say who has stopped
  pub bits : (r : ℕ) → r < n → (known r).stopped ≡ stops r
  pub left : (r v : ℕ) → r < n → (known r).own ≡ Left v → (known v).stopped ≡ true
  -- a rank that has stopped has not ended, is at rest and serves nobody
  pub gone : (r : ℕ) → r < n → (known r).stopped ≡ true → ((known r).own ≡ Resting) × ((known r).ended ≡ false) × ((k : ℕ) → serves (known r) k ≡ false)

-- the mailbox word of a rank, and 0 if there is no such rank
abbrev pub mailbox_word : ℕ → List ℕ → ℕ → ℕ
mailbox_word n ws r = if nat_lt r n then slice_index ws (r + 1) else 0

-- the mailboxes that the words say, the slots at home, the token, the halt and the stops
abbrev pub signs_in : ℕ → List ℕ → ℕ → Sign
signs_in n ws r = sign (mailbox_word n ws r)

abbrev pub slots_in : List (Core.Option Parcel) → ℕ → Core.Option Parcel
slots_in hs r = slice_index_or hs r none

abbrev pub token_in : List ℕ → Token
token_in ws = token_read (slice_index ws 0)

abbrev pub halt_in : ℕ → List ℕ → Bool
halt_in n ws = slice_index ws (n + 1) == 1

abbrev pub stops_in : ℕ → List ℕ → ℕ → Bool
stops_in n ws r = has_bit (slice_index ws (n + 2)) r

-- all facts of the words, the slots at home, and the knowledge of the seats
pub record Moment (n : ℕ) (known : ℕ → Known) (ws : List ℕ) (hs : List (Core.Option Parcel)) : Type 0 where
  pub mailboxes : MailboxFacts n known (signs_in n ws) (slots_in hs)
  pub ring : RingFacts n known (signs_in n ws) (token_in ws)
  pub halt : HaltFacts n known (halt_in n ws) (stops_in n ws)

-- the knowledge of the seat of the rank i at first, of n ranks
abbrev pub fresh : ℕ → ℕ → Known
fresh n i =
    record {
      number = i;
      n = n;
      busy = true;
      colour = White;
      tried = false;
      own = Resting;
      serves = replicate n false;
      here = None;
      ended = false;
      halted = false;
      knows_halt = false;
      stopped = false;
      given = replicate n [];
      taken = replicate n [];
      readings = [];
    }

-- the first seat, from which the others are made
abbrev pub opened : ℕ → View
opened n = record { made = 1; own = fresh n 0; kept = []; live = true }

-- a seat that was taken in: its rank keeps its knowledge, and the seat is spent
abbrev pub KeptIn : ℕ → (ℕ → Known) → List View → Known → Type 0
KeptIn n known views x = (x.number < n) × (known x.number ≡ x) × ((u : View) × (get_elem? views x.number ≡ some u) × (u.live ≡ false))

-- the rule
pub record Rule (n : ℕ) (s : TableState) : Type 0 where
  -- the knowledge of each rank's seat; a rank whose seat is not made yet has the knowledge of a fresh one
  pub known : ℕ → Known
  pub few : n ≤ 64
  pub wide : length s.words ≡ n + 3
  pub slots : length s.homes ≡ n
  pub seated : (k : ℕ) (v : View) → get_elem? s.views k ≡ some v → v.live ≡ true → (k < n) × (known k ≡ v.own)
  -- the knowledge that a seat took in is still that of its rank, whose own seat is spent
  pub kept : (k : ℕ) (v : View) → get_elem? s.views k ≡ some v → All (KeptIn n known s.views) v.kept
  -- the first seat alone can make others, and has made all that there are
  pub dealt : (k : ℕ) (v : View) → get_elem? s.views k ≡ some v → (v.made ≡ 0) ⊎ ((k ≡ 0) × (v.made ≡ length s.views))
  pub unmade : (r : ℕ) → length s.views ≤ r → known r ≡ fresh n r
  pub moment : Moment n known s.words s.homes

-- a seat that makes the next one
abbrev pub dealing : View → View
dealing v = record v { made = v.made + 1 }

-- the seat that is made
abbrev pub dealt_out : View → View
dealt_out v = record { made = 0; own = fresh v.own.n v.made; kept = []; live = true }

-- a seat that takes another one in, and the other one, which is spent
abbrev pub both : View → View → View
both v w = record v { kept = v.kept ++ w.own ∷ w.kept }

abbrev pub spent : View
spent = record { made = 0; own = fresh 0 0; kept = []; live = false }
