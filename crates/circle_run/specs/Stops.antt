-- The facts of a stop: no rank handles more than its number of strings, all are to halt only if some rank has handled as many, and only
-- then does any stop. Our own.
use Rattle.std.specs.Prelude.{◌≡◌, ℕ, ◌<◌, ◌≤◌, true, List, length, Some}
use Rattle.post_board.specs.Shown.{Strings}
use Rattle.post_board.specs.Told.{is_stopped}
use Rattle.circle_run.specs.Moves.{Move}
use Rattle.circle_run.specs.Stages.{Stage, rank_side, Plays, begun}
use Rattle.circle_run.specs.declared.settings.Options.{Options}

pub record Halts (o : Options) (stage : Stage) : Type 0 where
  -- as many places as ranks
  pub many : length stage.ranks ≡ length stage.told.places
  -- no rank has handled more
  pub most : (r k : ℕ) → o.stop_after ≡ Some k → length (rank_side stage r).log ≤ k
  -- if all are to halt, some rank has handled so many
  pub cause : stage.told.halt ≡ true → (k r : ℕ) × (o.stop_after ≡ Some k) × (r < length stage.ranks) × (k ≤ length (rank_side stage r).log)
  -- a rank stops only if all are to halt
  pub stops : (r : ℕ) → is_stopped stage.told r ≡ true → stage.told.halt ≡ true

abbrev pub MovesHalt : Type 0
MovesHalt = (o : Options) (starts : Strings) (moves : List (ℕ × Move)) (stage : Stage) → Plays o moves (begun o starts) stage → Halts o stage
