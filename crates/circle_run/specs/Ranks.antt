-- A rank beside its board: its knowledge, and the results of its steps. Our own.
use Rattle.std.specs.Prelude.{◌≡◌, ℕ, ◌<◌, ◌≤◌, true, false, if◌then◌else◌, List, length, [], ◌∷◌, ◌++◌, Option, Some}
use Rattle.std.specs.List.{flat_map}
use Rattle.post_board.specs.Shown.{Shown, is_served}
use Rattle.post_board.specs.Told.{Told}
use Rattle.circle_run.specs.Balance.{Log}
use Rattle.circle_run.specs.Moves.{Move, Side, Does, events_of}
use Rattle.circle_run.specs.Books.{counted}
use Rattle.circle_run.specs.declared.settings.Options.{Options}
use Rattle.circle_run.specs.declared.ranks.Rank.{Rank}

-- one move after the other
abbrev pub DoesAll : Options → ℕ → List Move → Side → Side → Type 0
DoesAll o me [] s s' = s' ≡ s
DoesAll o me (m ∷ moves) s s' = (mid : Side) × Does o me m s mid × DoesAll o me moves mid s'

module _ {J S T : Type 0} (shows : S → Shown) where
  -- a rank knows of itself the facts that its seat shows
  pub record Knows (r : Rank J S T) : Type 0 where
    pub number : (shows r.seat).number ≡ r.me
    pub ranks : (shows r.seat).n ≡ r.options.ranks
    pub colour : (shows r.seat).colour ≡ r.colour
    pub tried : (shows r.seat).tried ≡ r.tried
    pub asked : (shows r.seat).asked ≡ r.asked
    pub asks : (v : ℕ) → r.asked ≡ Some v → v < r.options.ranks
    pub ended : (shows r.seat).ended ≡ r.ended
    pub stopped : (shows r.seat).stopped ≡ r.stopped
    pub inside : r.me < r.options.ranks
    pub few : r.options.ranks ≤ 64
    pub wide : length (shows r.seat).serves ≡ r.options.ranks
    pub idle : (shows r.seat).busy ≡ false → r.queue ≡ []
    pub waits : (v : ℕ) → r.asked ≡ Some v → r.queue ≡ []
    pub over : r.ended ≡ true → r.queue ≡ []
    pub empty : r.fresh ≡ []

  -- it serves nobody
  abbrev pub ServesNone : Rank J S T → Type 0
  ServesNone r = (k : ℕ) → is_served (shows r.seat) k ≡ false

module _ {J S T P Q : Type 0} (log : J → Log) (plain : J → Q) (shows : S → Shown) (tells : P → Option Told) (seats : P → S → Type 0) where
  abbrev pub side : Rank J S T → P → Side
  side r p = record { queue = r.queue; log = log r.job; draws = r.draws; batches = (shows r.seat).batches; told = tells p }

  -- moves of this kind were made, and written down
  pub record Went (kind : List Move → Type 0) (r : Rank J S T) (p : P) (r' : Rank J S T) (p' : P) : Type 0 where
    pub had : r.book.lost ≡ false
    pub moves : List Move
    pub are : kind moves
    pub does : DoesAll r.options r.me moves (side r p) (side r' p')
    pub kept : r'.book.events.items ≡ r.book.events.items ++ (if r.options.trace then flat_map (events_of r.me) moves else [])
    pub share : r'.book.share ≡ counted (flat_map (events_of r.me) moves) r.book.share
