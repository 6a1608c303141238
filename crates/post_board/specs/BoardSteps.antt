-- The facts that each step of a board of atomic words gives the call that makes it: of the step, the seat before, the number found and the
-- seat after. Our own. Private clauses alone cite this, and `LateSteps`.
use Rattle.std.specs.Prelude.{All, ◌≡◌, ◌≢◌, ℕ, ◌-◌, ◌<◌, ◌⊎◌, ◌==◌, nat_lt, Bool, true, false, if◌then◌else◌, List, [], ◌∷◌, ◌++◌, slice_set, Some, None}
use Rattle.atomic_table.specs.Table.{Me, Step, rest}
use Rattle.ring_core.specs.World.{is_over}
use Rattle.ring_core.specs.Step.{is_at}
use Rattle.ring_core.specs.declared.states.Colour.{Colour}
use Rattle.ring_core.specs.declared.states.Colour.TheVariants.{White, Black}
use Rattle.ring_core.specs.declared.states.Token.{Token}
use Rattle.ring_core.specs.declared.states.Token.TheVariants.{At, Over}
use Rattle.post_board.specs.Shown.{Strings}
use Rattle.post_board.specs.Words.{Sign, resting, asking, serving, full, fetching, emptied, sign, word_of, token_read}
use Rattle.post_board.specs.BoardRule.{Parcel, given, taken, serves, OwnFits}
use Rattle.post_board.specs.declared.board_views.Known.{Known}
use Rattle.post_board.specs.declared.board_views.View.{View}
use Rattle.post_board.specs.declared.board_views.OwnMailbox.{OwnMailbox}
use Rattle.post_board.specs.declared.board_views.OwnMailbox.TheVariants.{Resting, Open, Filled, Emptied, Getting}

-- the knowledge of a seat, and the slots that it holds, the one that it took last in front
abbrev pub SeatState : Type 0
SeatState = Me Parcel View

abbrev pub Telling : Type 1
Telling = Step Parcel → SeatState → ℕ → SeatState → Type 0

-- a seat in use, of a rank that has neither ended nor stopped
pub record Going (m : SeatState) : Type 0 where
  pub live : m.0.live ≡ true
  pub runs : m.0.own.ended ≡ false
  pub goes : m.0.own.stopped ≡ false

-- the seat knows one reading more
abbrev pub noted : Known → ℕ → ℕ → ℕ → Known
noted v word found left = record v { readings = v.readings ++ record { word = word; found = found; left = left } ∷ [] }

abbrev pub knows : View → Known → View
knows v k = record v { own = k }

abbrev pub knowing : SeatState → Known → SeatState
knowing m k = (knows m.0 k, m.1)

-- ask: a swap of the own mailbox
abbrev pub after_ask : Known → ℕ → ℕ → ℕ → Known
after_ask v victim word found = record (noted v word found (word_of (asking victim))) { busy = false; own = Open victim }

abbrev pub AskTells : Telling
AskTells st m r n = (sign r ≡ resting) × ((victim : ℕ) → st.first ≡ word_of (asking victim) → n ≡ knowing m (after_ask m.0.own victim st.word r))

-- a look at the own mailbox: a load
abbrev pub learn : OwnMailbox → Sign → OwnMailbox
learn o (full i) = Filled i
learn o (emptied i) = Emptied i
learn o _ = o

abbrev pub after_look : Known → ℕ → ℕ → Known
after_look v word found = record (noted v word found found) { own = learn v.own (sign found) }

abbrev pub LookTells : Telling
LookTells st m r n = OwnFits m.0.own.own (sign r) × (n ≡ knowing m (after_look m.0.own st.word r))

-- take up: a compare_exchange of another mailbox; if it fails, a look
abbrev pub after_taking : Known → ℕ → ℕ → ℕ → Known
after_taking v asker word found = record (noted v word found (word_of (serving v.number))) { serves = slice_set v.serves asker true }

abbrev pub TakeUpTells : Telling
TakeUpTells st m r n =
    (r ≡ st.first → (serves m.0.own (st.word - 1) ≡ false) × (n ≡ (knows m.0 (after_taking m.0.own (st.word - 1) st.word r), (st.word - 1, None) ∷ m.1)))
    × (r ≢ st.first → n ≡ knowing m (noted m.0.own st.word r r))

-- a look at the mailbox of another rank: a load, noted if it does not ask this rank
abbrev pub ScanTells : Telling
ScanTells st m r n =
    (r ≡ word_of (asking m.0.own.number) → n ≡ m)
    × (r ≢ word_of (asking m.0.own.number) → n ≡ knowing m (noted m.0.own st.word r r))

-- post batch: a swap of the asker's mailbox
abbrev pub after_post : Known → ℕ → ℕ → ℕ → Strings → Known
after_post v to word found b =
    record (noted v word found (word_of (full v.number))) {
      colour = (if nat_lt v.number to then Black else v.colour);
      serves = slice_set v.serves to false;
      given = slice_set v.given to (given v to ++ b ∷ []);
    }

-- the batch in the slot that was taken last
abbrev pub front : List (ℕ × Parcel) → Strings
front ((k, Some b) ∷ xs) = b
front _ = []

abbrev pub GiveTells : Telling
GiveTells st m r n = (sign r ≡ serving m.0.own.number) × (n ≡ (knows m.0 (after_post m.0.own (st.word - 1) st.word r (front m.1)), rest m.1))

-- post none: a swap of the asker's mailbox
abbrev pub after_refusing : Known → ℕ → ℕ → ℕ → Known
after_refusing v to word found = record (noted v word found (word_of (emptied v.number))) { serves = slice_set v.serves to false }

abbrev pub RefuseTells : Telling
RefuseTells st m r n = (sign r ≡ serving m.0.own.number) × (n ≡ (knows m.0 (after_refusing m.0.own (st.word - 1) st.word r), rest m.1))

-- fetch
abbrev pub after_fetch : Known → ℕ → ℕ → ℕ → Strings → Known
after_fetch v from word found b =
    record (noted v word found (word_of (fetching from))) {
      busy = true;
      tried = false;
      own = Getting from;
      taken = slice_set v.taken from (taken v from ++ b ∷ []);
    }

abbrev pub FetchTells : Telling
FetchTells st m r n = (from : ℕ) → m.0.own.own ≡ Filled from
    → (sign r ≡ full from) × ((b : Strings) × (n ≡ (knows m.0 (after_fetch m.0.own from st.word r b), (st.word - 1, Some b) ∷ m.1)))

-- rest, from fetching, with the slot given back empty, and from empty
abbrev pub after_rest : Known → ℕ → ℕ → Bool → Known
after_rest v word found tried = record (noted v word found (word_of resting)) { own = Resting; tried = tried }

abbrev pub RestTells : Telling
RestTells st m r n = ((from : ℕ) → m.0.own.own ≡ Getting from → sign r ≡ fetching from)
    × (n ≡ (knows m.0 (after_rest m.0.own st.word r m.0.own.tried), rest m.1))

abbrev pub RestEmptyTells : Telling
RestEmptyTells st m r n = ((from : ℕ) → m.0.own.own ≡ Emptied from → sign r ≡ emptied from) × (n ≡ knowing m (after_rest m.0.own st.word r true))

-- load ring
abbrev pub heard_at : Known → Token → Known
heard_at v Over = record v { here = None; ended = true }
heard_at v (At p c) = record v { here = (if p == v.number then Some c else None) }

abbrev pub RingTells : Telling
RingTells st m r n =
    (n ≡ knowing m (heard_at (noted m.0.own st.word r r) (token_read r)))
    × (token_read r ≡ Over → m.0.own.busy ≡ false)
    × (is_at (token_read r) m.0.own.number ≡ false → is_over (token_read r) ≡ false → 1 < m.0.own.n)

-- pass, restart, conclude: swaps of the ring
abbrev pub after_pass : Known → ℕ → ℕ → Known
after_pass v found left = record (noted v 0 found left) { colour = White; here = None }

abbrev pub PassTells : Telling
PassTells st m r n = ((c : Colour) → m.0.own.here ≡ Some c → token_read r ≡ At m.0.own.number c) × (n ≡ knowing m (after_pass m.0.own r st.first))

abbrev pub after_restart : Known → ℕ → ℕ → Known
after_restart v found left = record (noted v 0 found left) { busy = false; colour = White; here = None }

abbrev pub RestartTells : Telling
RestartTells st m r n = ((c : Colour) → m.0.own.here ≡ Some c → token_read r ≡ At m.0.own.number c) × (n ≡ knowing m (after_restart m.0.own r st.first))

abbrev pub after_conclude : Known → ℕ → ℕ → Known
after_conclude v found left = record (noted v 0 found left) { here = None; ended = true }

abbrev pub ConcludeTells : Telling
ConcludeTells st m r n = ((c : Colour) → m.0.own.here ≡ Some c → token_read r ≡ At m.0.own.number c) × (n ≡ knowing m (after_conclude m.0.own r st.first))

-- the last look: if each kept seat has ended or stopped, they took from one another the batches that they gave
abbrev pub Squares : View → Type 0
Squares v = All (λ x. All (λ y. taken y x.number ≡ given x y.number) (v.own ∷ v.kept)) (v.own ∷ v.kept)

-- and if one knows of the halt, the rank of some number has halted
abbrev pub Halters : View → Type 0
Halters v = All (λ x. x.knows_halt ≡ true → (r : ℕ) × (r < v.own.n) × All (λ y. y.number ≡ r → y.halted ≡ true) (v.own ∷ v.kept)) (v.own ∷ v.kept)

abbrev pub LastLookTells : Telling
LastLookTells st m r n =
    (n ≡ knowing m (noted m.0.own st.word r r))
    × (All (λ x. (x.ended ≡ true) ⊎ (x.stopped ≡ true)) (m.0.own ∷ m.0.kept) → Squares m.0)
    × Halters m.0
