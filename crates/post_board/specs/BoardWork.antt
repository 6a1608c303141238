-- The inner parts of the calls of a board of atomic words. Our own. Private clauses alone cite this.
use Rattle.std.specs.Prelude.{◌≡◌, ◌≢◌, ℕ, ◌+◌, ◌<◌, ◌⊎◌, ◌==◌, if◌then◌else◌, ◌∷◌, map, length, true, false, Some, None}
use Rattle.std.specs.List.{Contains}
use Rattle.std.proofs.Common.{deque_capacity}
use Rattle.atomic_table.specs.Seated.{TableId}
use Rattle.ring_core.specs.World.{is_over}
use Rattle.ring_core.specs.Step.{is_at}
use Rattle.ring_core.specs.declared.states.Token.{Token}
use Rattle.ring_core.specs.declared.states.Token.TheVariants.{At, Over}
use Rattle.post_board.specs.declared.answers.Ring.{Ring}
use Rattle.post_board.specs.declared.answers.Ring.TheVariants.{Elsewhere, Here, Over as HeardOver, Halted}
use Rattle.post_board.specs.BoardRule.{serves}
use Rattle.post_board.specs.Words.{asking, serving, full, emptied, sign, word_of, token_read, has_bit}
use Rattle.post_board.specs.BoardSteps.{SeatState, Going, noted, knows, knowing, after_taking}
use Rattle.post_board.specs.declared.board_answers.Reply.{Reply}
use Rattle.post_board.specs.declared.board_answers.Reply.TheVariants.{Waiting, Full, Refused, Withdrawn}
use Rattle.post_board.specs.declared.board_views.Known.{Known}
use Rattle.post_board.specs.declared.board_views.OwnMailbox.TheVariants.{Resting, Filled, Emptied}
use Rattle.post_board.specs.declared.boards.Board.{Board}
use Rattle.post_board.specs.declared.boards.BoardSeat.{BoardSeat}

-- the seat of the rank me, which neither ended nor stopped
pub record Mine (b : Board) (id : TableId) (m : SeatState) (me : ℕ) : Type 0 where
  pub table : id ≡ b.table.shared.table_id
  pub number : m.0.own.number ≡ me
  pub sized : m.0.own.n ≡ b.n
  pub inside : me < b.n
  pub going : Going m

-- the rank me took up the request of r: it knows that it serves r, and has the slot of r
abbrev pub TookUp : ℕ → ℕ → SeatState → SeatState → Type 0
TookUp me r m m' = (serves m.0.own r ≡ false) × (m' ≡ (knows m.0 (after_taking m.0.own r (r + 1) (word_of (asking me))), (r, None) ∷ m.1))

-- the rank me looked at the mailbox of r, which asks another rank or none
abbrev pub TookNone : ℕ → ℕ → SeatState → SeatState → Type 0
TookNone me r m m' = (found : ℕ) × (found ≢ word_of (asking me)) × (m' ≡ knowing m (noted m.0.own (r + 1) found found))

-- the meaning of the token in the ring word for the rank me
abbrev pub ring_read : Token → ℕ → Ring
ring_read Over me = HeardOver
ring_read (At p c) me = if p == me then Here c else Elsewhere

-- the word of the ring, and that of the halt unless all is over, say this to the rank me
abbrev pub Heard : ℕ → Ring → ℕ → ℕ → Type 0
Heard me HeardOver token halt = token_read token ≡ Over
Heard me Elsewhere token halt = (is_at (token_read token) me ≡ false) × (is_over (token_read token) ≡ false) × (halt ≢ 1)
Heard me (Here c) token halt = (token_read token ≡ At me c) × (halt ≢ 1)
Heard me Halted token halt = (is_over (token_read token) ≡ false) × (halt ≡ 1)

-- the knowledge of its seat then
abbrev pub after_hearing : ℕ → Known → Ring → ℕ → ℕ → Known
after_hearing n v HeardOver token halt = record (noted v 0 token token) { here = None; ended = true }
after_hearing n v Elsewhere token halt = record (noted (noted v 0 token token) (n + 1) halt halt) { here = None }
after_hearing n v (Here c) token halt = record (noted (noted v 0 token token) (n + 1) halt halt) { here = Some c }
after_hearing n v Halted token halt = record (noted (noted v 0 token token) (n + 1) halt halt) { here = None; knows_halt = true }

-- the rank me looked where the token is and, unless all is over, whether all are to halt
pub record Hears (n me : ℕ) (m : SeatState) (ring : Ring) (m' : SeatState) : Type 0 where
  pub token : ℕ
  pub halt : ℕ
  pub heard : Heard me ring token halt
  pub after : m' ≡ knowing m (after_hearing n m.0.own ring token halt)
  pub over : ring ≡ HeardOver → m.0.own.busy ≡ false
  pub elsewhere : ring ≡ Elsewhere → 1 < n
  pub halted : m.0.own.halted ≡ true → (ring ≡ Halted) ⊎ (ring ≡ HeardOver)

-- the word of the stops, and the own mailbox after it, say this of a request to v
abbrev pub Replied : ℕ → Reply → ℕ → ℕ → Type 0
Replied v Waiting stops word = (has_bit stops v ≡ false) × ((sign word ≡ asking v) ⊎ (sign word ≡ serving v))
Replied v Full stops word = sign word ≡ full v
Replied v Refused stops word = sign word ≡ emptied v
Replied v Withdrawn stops word = (has_bit stops v ≡ true) × (sign word ≡ asking v)

-- the knowledge of the seat of the rank me then
abbrev pub after_finding : ℕ → ℕ → ℕ → Known → Reply → ℕ → ℕ → Known
after_finding n me v k Waiting stops word = noted (noted k (n + 2) stops stops) (me + 1) word word
after_finding n me v k Full stops word = record (noted (noted k (n + 2) stops stops) (me + 1) word word) { own = Filled v }
after_finding n me v k Refused stops word = record (noted (noted k (n + 2) stops stops) (me + 1) word word) { own = Emptied v }
after_finding n me v k Withdrawn stops word = record (noted (noted k (n + 2) stops stops) (me + 1) word 0) { own = Resting; tried = true }

-- the rank me, with a request to v, looked which ranks have stopped and then for the answer
pub record Finds (n me v : ℕ) (m : SeatState) (reply : Reply) (m' : SeatState) : Type 0 where
  pub stops : ℕ
  pub word : ℕ
  pub replied : Replied v reply stops word
  pub after : m' ≡ knowing m (after_finding n me v m.0.own reply stops word)

-- the fields of a seat beside its words and slots stay
abbrev pub SameFields : BoardSeat → BoardSeat → Type 0
SameFields s s' =
    (s'.number ≡ s.number)
    × (s'.n ≡ s.n)
    × (s'.colour ≡ s.colour)
    × (s'.here ≡ s.here)
    × (s'.asked ≡ s.asked)
    × (s'.ended ≡ s.ended)

-- the slot of a rank that is served is in front, and no longer in the list
pub record Fronted (s : BoardSeat) (to : ℕ) (s' : BoardSeat) : Type 0 where
  pub table : s'.seat.table_id ≡ s.seat.table_id
  pub view : s'.seat.me.0 ≡ s.seat.me.0
  pub slots : s'.seat.me.1 ≡ (to, None) ∷ map (λ r. (r, None)) s'.held.items
  pub same : SameFields s s'
  pub room : deque_capacity s'.held ≡ deque_capacity s.held
  pub count : length s'.held.items + 1 ≡ length s.held.items
  pub others : (r : ℕ) → r ≢ to → serves s.seat.me.0.own r ≡ true → Contains s'.held.items r
