-- A legal step: when an event is refused and with which reason, and the world that it leaves.
-- Passing, restarting, concluding and blackening are the rules of EWD840; asking, giving, refusing and taking through mailboxes are our
-- own, after libcircle's work stealing.
use Rattle.std.specs.Prelude.{ℕ, ◌+◌, ◌-◌, ◌^◌, ◌==◌, ◌||◌, ◌&&◌, nat_lt, Bool, true, false, not, if◌then◌else◌, List, [], ◌∷◌, length, slice_set}
use Rattle.std.specs.Prelude.{Option, Some, None}
use Rattle.ring_core.specs.declared.states.Colour.TheVariants.{White, Black}
use Rattle.ring_core.specs.declared.states.Desk.{Desk}
use Rattle.ring_core.specs.declared.states.Desk.TheVariants.{Rest, Asked, Full, Empty}
use Rattle.ring_core.specs.declared.states.Token.{Token}
use Rattle.ring_core.specs.declared.states.Token.TheVariants.{At, Over}
use Rattle.ring_core.specs.declared.states.RankState.{RankState}
use Rattle.ring_core.specs.declared.events.Event.{Event}
use Rattle.ring_core.specs.declared.events.Event.TheVariants.{Handle, Ask, Give, Refuse, Take, TakeNone, Pass, Restart, Conclude, SeeOver}
use Rattle.ring_core.specs.declared.events.Reason.{Reason}
use Rattle.ring_core.specs.declared.events.Reason.TheVariants.{BadRank, Ended, Busy, Count, OpenDesk, WrongDesk, NoToken, NotTried, WrongColour}
use Rattle.ring_core.specs.World.{Seen, rank_of, is_black, is_over}

-- a rank is busy while strings wait at it
abbrev pub is_busy : RankState → Bool
is_busy me = nat_lt 0 me.queued

abbrev pub is_rest : Desk → Bool
is_rest Rest = true
is_rest _ = false

-- the mailbox holds a request to this rank
abbrev pub asks : Desk → ℕ → Bool
asks (Asked of) rank = of == rank
asks _ rank = false

-- the mailbox holds so many strings of this rank
abbrev pub holds : Desk → ℕ → ℕ → Bool
holds (Full by k) from count = by == from && k == count
holds _ from count = false

-- the mailbox holds a refusal by this rank
abbrev pub is_refused_by : Desk → ℕ → Bool
is_refused_by (Empty by) from = by == from
is_refused_by _ from = false

abbrev pub is_at : Token → ℕ → Bool
is_at (At place colour) rank = place == rank
is_at Over rank = false

abbrev pub is_token_black : Token → Bool
is_token_black (At place colour) = is_black colour
is_token_black Over = false

-- the two colours differ
abbrev pub differs : Bool → Bool → Bool
differs true b = not b
differs false b = b

abbrev pub is_none_of : List RankState → ℕ → Bool
is_none_of ranks rank = not (nat_lt rank (length ranks))

-- one of the two is not a rank, or both are the same
abbrev pub no_pair_of : List RankState → ℕ → ℕ → Bool
no_pair_of ranks rank other = is_none_of ranks rank || is_none_of ranks other || rank == other

-- a number of strings that cannot be counted
abbrev pub is_too_many : ℕ → Bool
is_too_many k = not (nat_lt k (2 ^ 64))

-- a rank that has others to ask moves the token only after a refusal
abbrev pub is_untried : List RankState → RankState → Bool
is_untried ranks me = nat_lt 1 (length ranks) && not me.tried

-- the first that holds
abbrev pub first_reason : List (Bool × Reason) → Option Reason
first_reason [] = None
first_reason (x ∷ xs) = if x.0 then Some x.1 else first_reason xs

-- when an event is refused: each condition with its reason, in the order of the reasons
abbrev pub checks : List RankState → Token → Event → List (Bool × Reason)
checks ranks token (Handle rank path kids) =
    (is_none_of ranks rank, BadRank)
    ∷ ((rank_of ranks rank).ended, Ended)
    ∷ (not (is_busy (rank_of ranks rank)) || is_too_many ((rank_of ranks rank).queued - 1 + kids), Count)
    ∷ []
checks ranks token (Ask rank victim) =
    (no_pair_of ranks rank victim, BadRank)
    ∷ ((rank_of ranks rank).ended, Ended)
    ∷ (is_busy (rank_of ranks rank), Busy)
    ∷ (not (is_rest (rank_of ranks rank).desk), OpenDesk)
    ∷ []
checks ranks token (Give rank to count) =
    (no_pair_of ranks rank to, BadRank)
    ∷ ((rank_of ranks rank).ended, Ended)
    ∷ (count == 0 || not (nat_lt count (rank_of ranks rank).queued), Count)
    ∷ (not (asks (rank_of ranks to).desk rank), WrongDesk)
    ∷ []
checks ranks token (Refuse rank to) =
    (no_pair_of ranks rank to, BadRank)
    ∷ ((rank_of ranks rank).ended, Ended)
    ∷ (not (asks (rank_of ranks to).desk rank), WrongDesk)
    ∷ []
checks ranks token (Take rank from count) =
    (no_pair_of ranks rank from, BadRank)
    ∷ ((rank_of ranks rank).ended, Ended)
    ∷ (is_too_many ((rank_of ranks rank).queued + count), Count)
    ∷ (not (holds (rank_of ranks rank).desk from count), WrongDesk)
    ∷ []
checks ranks token (TakeNone rank from) =
    (no_pair_of ranks rank from, BadRank)
    ∷ ((rank_of ranks rank).ended, Ended)
    ∷ (not (is_refused_by (rank_of ranks rank).desk from), WrongDesk)
    ∷ []
checks ranks token (Pass rank colour) =
    (is_none_of ranks rank || rank == 0, BadRank)
    ∷ ((rank_of ranks rank).ended, Ended)
    ∷ (is_busy (rank_of ranks rank), Busy)
    ∷ (not (is_rest (rank_of ranks rank).desk), OpenDesk)
    ∷ (not (is_at token rank), NoToken)
    ∷ (is_untried ranks (rank_of ranks rank), NotTried)
    ∷ (differs (is_black colour) (is_black (rank_of ranks rank).colour || is_token_black token), WrongColour)
    ∷ []
checks ranks token (Restart rank) =
    (is_none_of ranks rank || not (rank == 0), BadRank)
    ∷ ((rank_of ranks rank).ended, Ended)
    ∷ (is_busy (rank_of ranks rank), Busy)
    ∷ (not (is_rest (rank_of ranks rank).desk), OpenDesk)
    ∷ (not (is_at token rank), NoToken)
    ∷ (is_untried ranks (rank_of ranks rank), NotTried)
    ∷ (not (is_black (rank_of ranks rank).colour || is_token_black token), WrongColour)
    ∷ []
checks ranks token (Conclude rank) =
    (is_none_of ranks rank || not (rank == 0), BadRank)
    ∷ ((rank_of ranks rank).ended, Ended)
    ∷ (is_busy (rank_of ranks rank), Busy)
    ∷ (not (is_rest (rank_of ranks rank).desk), OpenDesk)
    ∷ (not (is_at token rank), NoToken)
    ∷ (is_untried ranks (rank_of ranks rank), NotTried)
    ∷ (is_black (rank_of ranks rank).colour || is_token_black token, WrongColour)
    ∷ []
checks ranks token (SeeOver rank) =
    (is_none_of ranks rank, BadRank)
    ∷ ((rank_of ranks rank).ended, Ended)
    ∷ (not (is_over token), NoToken)
    ∷ []

-- the first reason against an event; `None` if it is legal
abbrev pub refusal : List RankState → Token → Event → Option Reason
refusal ranks token event = first_reason (checks ranks token event)

-- a rank that gives to a higher one turns black
abbrev pub after_giving : RankState → ℕ → ℕ → RankState
after_giving me rank to = record me { colour = (if nat_lt rank to then Black else me.colour) }

-- the ranks after an event
abbrev pub ranks_after : List RankState → Event → List RankState
ranks_after ranks (Handle rank path kids) = slice_set ranks rank (record (rank_of ranks rank) { queued = (rank_of ranks rank).queued - 1 + kids })
ranks_after ranks (Ask rank victim) = slice_set ranks rank (record (rank_of ranks rank) { desk = Asked victim })
ranks_after ranks (Give rank to count) =
    slice_set (slice_set ranks rank (record (after_giving (rank_of ranks rank) rank to) { queued = (rank_of ranks rank).queued - count }))
    to (record (rank_of ranks to) { desk = Full rank count })
ranks_after ranks (Refuse rank to) = slice_set ranks to (record (rank_of ranks to) { desk = Empty rank })
ranks_after ranks (Take rank from count) =
    slice_set ranks rank (record (rank_of ranks rank) { queued = (rank_of ranks rank).queued + count; desk = Rest; tried = false })
ranks_after ranks (TakeNone rank from) = slice_set ranks rank (record (rank_of ranks rank) { desk = Rest; tried = true })
ranks_after ranks (Pass rank colour) = slice_set ranks rank (record (rank_of ranks rank) { colour = White })
ranks_after ranks (Restart rank) = slice_set ranks rank (record (rank_of ranks rank) { colour = White })
ranks_after ranks (Conclude rank) = slice_set ranks rank (record (rank_of ranks rank) { ended = true })
ranks_after ranks (SeeOver rank) = slice_set ranks rank (record (rank_of ranks rank) { ended = true })

-- the token after an event
abbrev pub token_after : List RankState → Token → Event → Token
token_after ranks token (Pass rank colour) = At (rank - 1) colour
token_after ranks token (Restart rank) = At (length ranks - 1) White
token_after ranks token (Conclude rank) = Over
token_after ranks token _ = token

-- the first reason against an event in a world; `None` if it is legal there
abbrev pub refused : Seen → Event → Option Reason
refused world event = refusal world.0 world.1 event

-- the world that a legal event leaves
abbrev pub after : Seen → Event → Seen
after world event = (ranks_after world.0 event, token_after world.0 world.1 event)
