-- How the ranks of a board begin: busy and white, with the token black at rank 0. The start of EWD840 (Dijkstra, Feijen, van Gasteren);
-- mailboxes and seats are our own.
use Rattle.std.specs.Prelude.{◌≡◌, ℕ, ◌<◌, true, false, List, length, slice_index_or, replicate, Option, None}
use Rattle.ring_core.specs.declared.states.Colour.TheVariants.{White, Black}
use Rattle.ring_core.specs.declared.states.Token.TheVariants.{At}
use Rattle.post_board.specs.Shown.{Batches, Shown}
use Rattle.post_board.specs.Told.{vacant, Place, Told}

-- the facts that the seat of the rank k shows at first, of n ranks
abbrev pub fresh : ℕ → ℕ → Option Batches → Shown
fresh n k batches =
    record {
      number = k;
      n = n;
      busy = true;
      colour = White;
      tried = false;
      asked = None;
      serves = replicate n false;
      here = None;
      ended = false;
      halted = false;
      knows_halt = false;
      stopped = false;
      batches = batches;
    }

abbrev pub fresh_place : Place
fresh_place = record { busy = true; colour = White; tried = false; ended = false; mail = vacant }

-- the picture that a board of n ranks tells at first
abbrev pub fresh_told : ℕ → Told
fresh_told n = record { places = replicate n fresh_place; token = At 0 Black; halt = false; stops = replicate n false }

-- the seats of all n ranks, in ascending number, as they are at first
pub record AllFresh {S : Type 0} (shows : S → Shown) (seats : S → Type 0) (n : ℕ) (batches : Option Batches) (all : List S) : Type 0 where
  pub count : length all ≡ n
  pub each : (k : ℕ) (d : S) → k < n → seats (slice_index_or all k d) × (shows (slice_index_or all k d) ≡ fresh n k batches)
