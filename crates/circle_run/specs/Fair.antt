-- Fairness of a run, and that turns in rounds keep it. Our own.
use Rattle.std.specs.Prelude.{◌≡◌, ◌≢◌, ℕ, suc, ◌%◌, ◌<◌, ◌==◌, ◌⊎◌, Bool, true, false, List, length, [], ◌∷◌, ◌++◌, map, None}
use Rattle.ring_core.specs.declared.states.Desk.{Desk}
use Rattle.ring_core.specs.declared.states.Desk.TheVariants.{Asked}
use Rattle.ring_core.specs.declared.events.Event.{Event}
use Rattle.ring_core.specs.declared.events.Event.TheVariants.{Handle, Ask, Give, Refuse, Take, TakeNone, Pass, Restart, Conclude, SeeOver}
use Rattle.ring_core.specs.World.{Seen, rank_of, started}
use Rattle.ring_core.specs.Step.{asks, after}
use Rattle.post_board.specs.Shown.{Strings}
use Rattle.post_board.specs.Told.{Mail, asked, Told, place, is_stopped}
use Rattle.post_board.specs.Deeds.{halt}
use Rattle.circle_run.specs.Moves.{Move, handled, served, did, noted}
use Rattle.circle_run.specs.Stages.{Stage, Plays, events_of_all, begun}
use Rattle.circle_run.specs.declared.settings.Options.{Options}

-- the rank of the event
abbrev pub actor : Event → ℕ
actor (Handle rank path kids) = rank
actor (Ask rank victim) = rank
actor (Give rank to count) = rank
actor (Refuse rank to) = rank
actor (Take rank from count) = rank
actor (TakeNone rank from) = rank
actor (Pass rank colour) = rank
actor (Restart rank) = rank
actor (Conclude rank) = rank
actor (SeeOver rank) = rank

-- the rank r handles a string by the event
abbrev pub handles : ℕ → Event → Bool
handles r (Handle rank path kids) = rank == r
handles r _ = false

-- the rank s has an event before the rank r handles a string again, if r does
abbrev pub ComesBefore : ℕ → ℕ → List Event → Type 0
ComesBefore s r [] = Unit {0}
ComesBefore s r (event ∷ events) = (actor event ≡ s) ⊎ ((handles r event ≡ false) × ComesBefore s r events)

-- the mailbox holds a request that is not answered
abbrev pub is_asking : Desk → Bool
is_asking (Asked of) = true
is_asking _ = false

-- if the event handles a string: each other rank comes before that rank handles one again, except a rank that is asking
abbrev pub LetsOthers : Seen → Event → List Event → Type 0
LetsOthers world (Handle rank path kids) events = (s : ℕ) → s < length world.0 → s ≢ rank → ComesBefore s rank events
    ⊎ (is_asking (rank_of world.0 s).desk ≡ true)
LetsOthers world _ events = Unit {0}

-- between two strings that one rank handles every other rank has an event of its own, except a rank that is asking at the earlier of the two
abbrev pub IsFair : Seen → List Event → Type 0
IsFair world [] = Unit {0}
IsFair world (event ∷ events) = LetsOthers world event events × IsFair (after world event) events

-- if the event handles a string: no other rank asks this one
abbrev pub NobodyAsked : Seen → Event → Type 0
NobodyAsked world (Handle rank path kids) = (s : ℕ) → s < length world.0 → s ≢ rank → asks (rank_of world.0 s).desk rank ≡ false
NobodyAsked world _ = Unit {0}

-- a rank handles a string only while nobody asks it
abbrev pub AnswersFirst : Seen → List Event → Type 0
AnswersFirst world [] = Unit {0}
AnswersFirst world (event ∷ events) = NobodyAsked world event × AnswersFirst (after world event) events

abbrev pub MovesAnswerFirst : Type 0
MovesAnswerFirst = (o : Options) (starts : Strings) (moves : List (ℕ × Move)) (stage : Stage)
    → o.stop_after ≡ None → Plays o moves (begun o starts) stage → AnswersFirst (started o.ranks (length starts)) (events_of_all moves)

-- the moves that may follow a move in the turn of its rank: after a handled string it tells all to halt, or does nothing more
abbrev pub MayFollow : Move → List Move → Type 0
MayFollow (handled path kids) moves = (moves ≡ []) ⊎ (moves ≡ noted halt ∷ [])
MayFollow (served answers) moves = Unit {0}
MayFollow (did deed) moves = Unit {0}
MayFollow (noted late) moves = Unit {0}

-- a turn, the moves of a rank one after the other, of which at most one handles a string; after it comes at most a halt
abbrev pub HandlesLast : List Move → Type 0
HandlesLast [] = Unit {0}
HandlesLast (move ∷ moves) = MayFollow move moves × HandlesLast moves

abbrev pub moves_in : ℕ → List Move → List (ℕ × Move)
moves_in r turn = map (λ move. (r, move)) turn

abbrev pub is_waiting : Mail → Bool
is_waiting (asked r) = true
is_waiting _ = false

-- a rank that has no event in its turn waits for an answer or has seen the end before it, or has stopped after it
abbrev pub MayIdle : ℕ → Told → Told → Type 0
MayIdle r t t' = (is_waiting (place t r).mail ≡ true) ⊎ (((place t r).ended ≡ true) ⊎ (is_stopped t' r ≡ true))

-- turn number k is that of rank k mod n, so the ranks have their turns in rounds
abbrev pub PlaysTurns : Options → ℕ → List (List Move) → Stage → Stage → Type 0
PlaysTurns o k [] from to = to ≡ from
PlaysTurns o k (turn ∷ turns) from to =
    (mid : Stage) × HandlesLast turn × Plays o (moves_in (k % o.ranks) turn) from mid
    × (events_of_all (moves_in (k % o.ranks) turn) ≡ [] → MayIdle (k % o.ranks) from.told mid.told)
    × PlaysTurns o (suc k) turns mid to

abbrev pub moves_of_turns : ℕ → ℕ → List (List Move) → List (ℕ × Move)
moves_of_turns n k [] = []
moves_of_turns n k (turn ∷ turns) = moves_in (k % n) turn ++ moves_of_turns n (suc k) turns

-- turns are played move after move
abbrev pub TurnsArePlayed : Type 0
TurnsArePlayed = (o : Options) (turns : List (List Move)) (from to : Stage) → PlaysTurns o 0 turns from to → Plays o (moves_of_turns o.ranks 0 turns) from to

abbrev pub RoundsAreFair : Type 0
RoundsAreFair = (o : Options) (starts : Strings) (turns : List (List Move)) (stage : Stage)
    → 0 < o.ranks → o.stop_after ≡ None → PlaysTurns o 0 turns (begun o starts) stage
    → IsFair (started o.ranks (length starts)) (events_of_all (moves_of_turns o.ranks 0 turns))
