-- The steps by which a rank tells all to halt or stops, those by which ranks read that, and the step by which a rank takes its request back
-- from a rank that has stopped. Our own.
use Rattle.std.specs.Prelude.{◌≡◌, ◌≢◌, ℕ, ◌+◌, ◌^◌, ◌<◌, ◌⊎◌, ◌==◌, Bool, true, false, if◌then◌else◌, bit_or, None}
use prog.Atomic.{either}
use mathlib.Core.Option.{none}
use Rattle.atomic_table.specs.Table.{Allows, step}
use Rattle.post_board.specs.Words.{has_bit, resting, asking, full, emptied, sign, word_of}
use Rattle.post_board.specs.BoardRule.{Rule, serves}
use Rattle.post_board.specs.BoardSteps.{SeatState, Telling, Going, noted, knowing, after_look, after_rest}
use Rattle.post_board.specs.declared.board_views.Known.{Known}
use Rattle.post_board.specs.declared.board_views.OwnMailbox.{OwnMailbox}
use Rattle.post_board.specs.declared.board_views.OwnMailbox.TheVariants.{Resting, Open, Left}

-- set halt: a swap
abbrev pub after_halt : Known → ℕ → ℕ → Known
after_halt v word found = record (noted v word found 1) { halted = true }

abbrev pub SetHaltTells : Telling
SetHaltTells st m r n = n ≡ knowing m (after_halt m.0.own st.word r)

-- load halt: a rank that reads it set forgets the token
abbrev pub halt_seen : Known → Bool → Known
halt_seen v true = record v { knows_halt = true; here = None }
halt_seen v false = v

abbrev pub LoadHaltTells : Telling
LoadHaltTells st m r n = (n ≡ knowing m (halt_seen (noted m.0.own st.word r r) (r == 1))) × (m.0.own.halted ≡ true → r ≡ 1)

-- stop: a fetch_or
abbrev pub after_stop : Known → ℕ → ℕ → Known
after_stop v word found = record (noted v word found (bit_or found (2 ^ v.number))) { stopped = true }

abbrev pub StopTells : Telling
StopTells st m r n = n ≡ knowing m (after_stop m.0.own st.word r)

-- load stops: an open request went to one of the ranks
abbrev pub stop_seen : OwnMailbox → ℕ → OwnMailbox
stop_seen (Open v) found = if has_bit found v then Left v else Open v
stop_seen o found = o

abbrev pub after_stops : Known → ℕ → ℕ → Known
after_stops v word found = record (noted v word found found) { own = stop_seen v.own found }

abbrev pub LoadStopsTells : Telling
LoadStopsTells st m r n = (n ≡ knowing m (after_stops m.0.own st.word r)) × ((v : ℕ) → m.0.own.own ≡ Open v → v < m.0.own.n)

-- withdraw: a compare_exchange of the own mailbox; if it fails, a look, which read full or emptied
abbrev pub WithdrawTells : Telling
WithdrawTells st m r n = (v : ℕ) → m.0.own.own ≡ Left v
    → (r ≡ st.first → n ≡ knowing m (after_rest m.0.own st.word r true))
    × (r ≢ st.first → ((sign r ≡ full v) ⊎ (sign r ≡ emptied v)) × (n ≡ knowing m (after_look m.0.own st.word r)))

-- each keeps the rule, and gives the facts above
abbrev pub SetHaltKeeps : Type 0
SetHaltKeeps = (n slots id : ℕ) (m : SeatState) → Going m
    → Allows (Rule n) slots id m (n + 1) (λ _. 1) (SetHaltTells (step slots (n + 1) 1 0 none) m)

abbrev pub LoadHaltKeeps : Type 0
LoadHaltKeeps = (n slots id : ℕ) (m : SeatState) → Going m
    → Allows (Rule n) slots id m (n + 1) (λ w. w) (LoadHaltTells (step slots (n + 1) 0 0 none) m)

-- by a rank at rest that serves nobody
abbrev pub StopKeeps : Type 0
StopKeeps = (n slots id : ℕ) (m : SeatState) → Going m → m.0.own.own ≡ Resting → ((r : ℕ) → serves m.0.own r ≡ false)
    → Allows (Rule n) slots id m (n + 2) (λ w. bit_or w (2 ^ m.0.own.number)) (StopTells (step slots (n + 2) (2 ^ m.0.own.number) 0 none) m)

abbrev pub LoadStopsKeeps : Type 0
LoadStopsKeeps = (n slots id : ℕ) (m : SeatState) → Going m
    → Allows (Rule n) slots id m (n + 2) (λ w. w) (LoadStopsTells (step slots (n + 2) 0 0 none) m)

-- by a rank that read the stop of the rank that it asked
abbrev pub WithdrawKeeps : Type 0
WithdrawKeeps = (n slots id r v : ℕ) (m : SeatState) → Going m → m.0.own.number ≡ r → m.0.own.own ≡ Left v
    → Allows (Rule n) slots id m (r + 1) (λ w. either (w == word_of (asking v)) (word_of resting) w)
    (WithdrawTells (step slots (r + 1) (word_of (asking v)) (word_of resting) none) m)
