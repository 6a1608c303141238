-- All ranks together, and the runs that they make, one move after the other. Our own, over the moves of each rank.
use Rattle.std.specs.Prelude.{◌≡◌, ℕ, suc, ◌%◌, ◌==◌, if◌then◌else◌, true, false, List, [], ◌∷◌, ◌++◌, map, replicate, slice_set, slice_index_or, Some, None}
use Rattle.std.specs.List.{flat_map, range_with_len}
use Rattle.rand_pcg.specs.Lcg.{Lcg}
use Rattle.rank_queue.specs.Shares.{generator_of}
use Rattle.ring_core.specs.declared.states.Colour.TheVariants.{White, Black}
use Rattle.ring_core.specs.declared.states.Token.TheVariants.{At}
use Rattle.ring_core.specs.declared.events.Event.{Event}
use Rattle.post_board.specs.Shown.{Strings}
use Rattle.post_board.specs.Told.{vacant, Place, Told}
use Rattle.circle_run.specs.Balance.{Log}
use Rattle.circle_run.specs.Moves.{Move, Side, Does, events_of}
use Rattle.circle_run.specs.declared.settings.Options.{Options}

-- the parts of one rank
pub record RankSide : Type 0 where
  pub queue : Strings
  pub log : Log
  pub draws : Lcg

pub record Stage : Type 0 where
  pub ranks : List RankSide
  pub told : Told

abbrev pub no_side : RankSide
no_side = record { queue = []; log = []; draws = generator_of 0 0 }

abbrev pub rank_side : Stage → ℕ → RankSide
rank_side stage r = slice_index_or stage.ranks r no_side

abbrev pub side : RankSide → Told → Side
side x t = record { queue = x.queue; log = x.log; draws = x.draws; batches = None; told = Some t }

-- the moves are played one after the other, each by its rank
abbrev pub Plays : Options → List (ℕ × Move) → Stage → Stage → Type 0
Plays o [] from to = to ≡ from
Plays o (m ∷ moves) from to =
    (x : RankSide) × (t : Told) × Does o m.0 m.1 (side (rank_side from m.0) from.told) (side x t)
    × Plays o moves (record { ranks = slice_set from.ranks m.0 x; told = t }) to

abbrev pub events_of_all : List (ℕ × Move) → List Event
events_of_all moves = flat_map (λ m. events_of m.0 m.1) moves

-- the strings that rank r is dealt, where string k goes to rank k mod n
abbrev pub dealt_from : ℕ → ℕ → ℕ → Strings → Strings
dealt_from n r k [] = []
dealt_from n r k (s ∷ starts) = (if k % n == r then s ∷ [] else []) ++ dealt_from n r (suc k) starts

abbrev pub dealt_to : ℕ → Strings → ℕ → Strings
dealt_to n starts r = dealt_from n r 0 starts

-- a rank that has done nothing yet
abbrev pub new_place : Place
new_place = record { busy = true; colour = White; tried = false; ended = false; mail = vacant }

abbrev pub new_told : ℕ → Told
new_told n = record { places = replicate n new_place; token = At 0 Black; halt = false; stops = replicate n false }

-- before the first move
abbrev pub begun : Options → Strings → Stage
begun o starts = record {
  ranks = map (λ r. record { queue = dealt_to o.ranks starts r; log = []; draws = generator_of o.seed r }) (range_with_len 0 o.ranks);
  told = new_told o.ranks;
}
