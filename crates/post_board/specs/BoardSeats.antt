-- Which seats are a board's own, and the facts that they show: the seat of `Post` for `&Board`. Our own.
use Rattle.std.specs.Prelude.{◌≡◌, ℕ, ◌<◌, ◌≤◌, ◌==◌, if◌then◌else◌, [], replicate, map, length, sum_by, true, false, Bool, Option, Some, None}
use Rattle.std.specs.List.{Contains}
use Rattle.std.proofs.Common.{deque_capacity}
use Rattle.post_board.specs.Shown.{Batches, Shown}
use Rattle.post_board.specs.BoardRule.{asked_of, serves}
use Rattle.post_board.specs.declared.board_views.Known.{Known}
use Rattle.post_board.specs.declared.board_views.OwnMailbox.{OwnMailbox}
use Rattle.post_board.specs.declared.board_views.OwnMailbox.TheVariants.{Resting, Open}
use Rattle.post_board.specs.declared.boards.Board.{Board}
use Rattle.post_board.specs.declared.boards.BoardSeat.{BoardSeat}

-- the facts that a seat shows of its knowledge
abbrev pub shown_known : Known → Shown
shown_known v =
    record {
      number = v.number;
      n = v.n;
      busy = v.busy;
      colour = v.colour;
      tried = v.tried;
      asked = asked_of v.own;
      serves = v.serves;
      here = v.here;
      ended = v.ended;
      halted = v.halted;
      knows_halt = v.knows_halt;
      stopped = v.stopped;
      batches = Some (record { given = v.given; taken = v.taken });
    }

abbrev pub shown_by : BoardSeat → Shown
shown_by s = shown_known s.seat.me.0.own

abbrev pub one_if : Bool → ℕ
one_if true = 1
one_if false = 0

-- the knowledge of a seat about its own mailbox between two calls
abbrev pub own_by : Option ℕ → OwnMailbox
own_by None = Resting
own_by (Some v) = Open v

-- the seat is one of this board's, and its fields are the knowledge in its view
pub record IsSeat (b : Board) (s : BoardSeat) : Type 0 where
  pub table : s.seat.table_id ≡ b.table.shared.table_id
  pub number : s.seat.me.0.own.number ≡ s.number
  pub sized : s.seat.me.0.own.n ≡ b.n
  pub n : s.n ≡ b.n
  pub inside : s.number < b.n
  pub live : s.seat.me.0.live ≡ true
  pub alone : s.seat.me.0.kept ≡ []
  pub wide : length s.seat.me.0.own.serves ≡ b.n
  pub colour : s.seat.me.0.own.colour ≡ s.colour
  pub here : s.seat.me.0.own.here ≡ s.here
  pub own : s.seat.me.0.own.own ≡ own_by s.asked
  pub ended : s.seat.me.0.own.ended ≡ s.ended
  -- it has room for a number of each rank, and has one for each rank that it serves
  pub room : b.n ≤ deque_capacity s.held
  pub count : length s.held.items ≡ sum_by one_if s.seat.me.0.own.serves
  -- the slots that it holds, all empty, are those of the ranks that it serves
  pub held : s.seat.me.1 ≡ map (λ r. (r, None)) s.held.items
  pub holds : (r : ℕ) → serves s.seat.me.0.own r ≡ true → Contains s.held.items r

-- the seat has read no word yet
abbrev pub IsUnread : BoardSeat → Type 0
IsUnread s = s.seat.me.0.own.readings ≡ []

-- the lists of a seat that gave nothing and took nothing
abbrev pub unused : ℕ → Batches
unused n = record { given = replicate n []; taken = replicate n [] }

-- whether rank 0 saw the end, once its seat has come: as this seat says, if it is rank 0's, else as was known
abbrev pub first_ended : ℕ → Bool → Bool → Bool
first_ended number ended over = if number == 0 then ended else over
