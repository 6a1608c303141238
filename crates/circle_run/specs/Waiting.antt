-- The strings of all ranks of a stage, and the balance of a run of moves. Our own.
use Rattle.std.specs.Prelude.{◌≡◌, ℕ, ◌<◌, true, List, [], ◌++◌, None}
use Rattle.std.specs.List.{flat_map}
use Rattle.post_board.specs.Shown.{Strings}
use Rattle.post_board.specs.Told.{Mail, full, place}
use Rattle.post_board.specs.Calls.{NoneOnTheWay}
use Rattle.circle_run.specs.Balance.{Log, Balanced}
use Rattle.circle_run.specs.Moves.{Move}
use Rattle.circle_run.specs.Stages.{Stage, rank_side, Plays, begun}
use Rattle.circle_run.specs.declared.settings.Options.{Options}

-- the strings in a mailbox
abbrev pub batch_in : Mail → Strings
batch_in (full from batch) = batch
batch_in _ = []

abbrev pub all_queued : Stage → Strings
all_queued stage = flat_map (λ x. x.queue) stage.ranks

abbrev pub all_mailed : Stage → Strings
all_mailed stage = flat_map (λ x. batch_in x.mail) stage.told.places

abbrev pub all_logged : Stage → Log
all_logged stage = flat_map (λ x. x.log) stage.ranks

-- no string waits at a rank, and none lies in a mailbox
pub record NothingWaits (stage : Stage) : Type 0 where
  pub queues : (r : ℕ) → (rank_side stage r).queue ≡ []
  pub mailboxes : NoneOnTheWay stage.told

-- each string was handled, or waits at a rank or in a mailbox, as often as it was a start or was pushed
abbrev pub MovesAreBalanced : Type 0
MovesAreBalanced = (o : Options) (starts : Strings) (moves : List (ℕ × Move)) (stage : Stage)
    → 0 < o.ranks → Plays o moves (begun o starts) stage → Balanced (all_logged stage) (all_queued stage ++ all_mailed stage) starts

-- and so, if nothing waits, each string was handled that often
abbrev pub AllIsHandled : Type 0
AllIsHandled = (o : Options) (starts : Strings) (moves : List (ℕ × Move)) (stage : Stage)
    → 0 < o.ranks → Plays o moves (begun o starts) stage → NothingWaits stage → Balanced (all_logged stage) [] starts

-- if a rank has seen the end of a run that stops after no number, nothing waits
abbrev pub NothingWaitsAtEnd : Type 0
NothingWaitsAtEnd = (o : Options) (starts : Strings) (moves : List (ℕ × Move)) (stage : Stage) (r : ℕ)
    → o.stop_after ≡ None → Plays o moves (begun o starts) stage → (place stage.told r).ended ≡ true → NothingWaits stage
