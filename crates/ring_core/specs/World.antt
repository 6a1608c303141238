-- A world of ranks: what each holds, its mailbox, and the token that tells the end.
-- Ranks, colours and token are those of EWD840 (Dijkstra, Feijen, van Gasteren); the mailbox of each rank, its desk, is our own.
use Rattle.std.specs.Prelude.{ℕ, ◌%◌, ◌==◌, Bool, true, false, List, map, slice_index_or, count_by, sum_by}
use Rattle.std.specs.List.{range_with_len}
use Rattle.ring_core.specs.declared.states.Colour.{Colour}
use Rattle.ring_core.specs.declared.states.Colour.TheVariants.{White, Black}
use Rattle.ring_core.specs.declared.states.Desk.{Desk}
use Rattle.ring_core.specs.declared.states.Desk.TheVariants.{Rest, Full}
use Rattle.ring_core.specs.declared.states.Token.{Token}
use Rattle.ring_core.specs.declared.states.Token.TheVariants.{At, Over}
use Rattle.ring_core.specs.declared.states.RankState.{RankState}

-- a world as a contract sees it: the ranks by their numbers, and the token
abbrev pub Seen : Type 0
Seen = List RankState × Token

-- a rank that has done nothing yet
abbrev pub fresh : ℕ → RankState
fresh queued = record { queued = queued; colour = White; tried = false; desk = Rest; ended = false }

-- the rank of this number, or a fresh one without strings if there is none
abbrev pub rank_of : List RankState → ℕ → RankState
rank_of ranks r = slice_index_or ranks r (fresh 0)

abbrev pub is_black : Colour → Bool
is_black Black = true
is_black White = false

-- black if one of the two is
abbrev pub darker : Colour → Colour → Colour
darker Black c = Black
darker White c = c

abbrev pub is_over : Token → Bool
is_over (At place colour) = false
is_over Over = true

-- how many of the strings 0, 1 and so on up to `starts` go to rank r, where string k goes to rank k mod n
abbrev pub dealt : ℕ → ℕ → ℕ → ℕ
dealt n starts r = count_by (λ k. k % n == r) (range_with_len 0 starts)

-- the world in which n ranks begin
abbrev pub started : ℕ → ℕ → Seen
started n starts = (map (λ r. fresh (dealt n starts r)) (range_with_len 0 n), At 0 Black)

-- how many strings a mailbox holds
abbrev pub held : Desk → ℕ
held (Full by count) = count
held _ = 0

-- all strings that wait at ranks
abbrev pub queued_in : List RankState → ℕ
queued_in ranks = sum_by (λ r. r.queued) ranks

-- all strings that are on the way from one rank to another
abbrev pub on_way_in : List RankState → ℕ
on_way_in ranks = sum_by (λ r. held r.desk) ranks
