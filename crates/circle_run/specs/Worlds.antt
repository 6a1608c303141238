-- The world of ranks that a stage shows; the played moves are a run of that world. Our own, over the world of ring_core.
use Rattle.std.specs.Prelude.{◌≡◌, ℕ, List, length, map, None}
use Rattle.std.specs.List.{range_with_len}
use Rattle.ring_core.specs.declared.states.Desk.{Desk}
use Rattle.ring_core.specs.declared.states.Desk.TheVariants.{Rest, Asked, Full, Empty}
use Rattle.ring_core.specs.declared.states.RankState.{RankState}
use Rattle.ring_core.specs.World.{Seen, started}
use Rattle.ring_core.specs.Run.{IsRun, after_all}
use Rattle.post_board.specs.Shown.{Strings}
use Rattle.post_board.specs.Told.{Mail, vacant, asked, full, empty, Place, place}
use Rattle.circle_run.specs.Moves.{Move}
use Rattle.circle_run.specs.Stages.{Stage, rank_side, Plays, events_of_all, begun}
use Rattle.circle_run.specs.declared.settings.Options.{Options}

-- a mailbox, with the number of its strings in place of the batch
abbrev pub desk_of : Mail → Desk
desk_of vacant = Rest
desk_of (asked r) = Asked r
desk_of (full r batch) = Full r (length batch)
desk_of (empty r) = Empty r

-- a rank by its queue and its told place
abbrev pub state_of : Strings → Place → RankState
state_of queue x = record { queued = length queue; colour = x.colour; tried = x.tried; desk = desk_of x.mail; ended = x.ended }

-- all ranks, and the token
abbrev pub world_of : Stage → Seen
world_of stage = (map (λ r. state_of (rank_side stage r).queue (place stage.told r)) (range_with_len 0 (length stage.ranks)), stage.told.token)

-- the events of the moves are legal from the world that is dealt so many strings, and leave the world of the stage
pub record IsRunTo (o : Options) (starts : Strings) (moves : List (ℕ × Move)) (stage : Stage) : Type 0 where
  pub run : IsRun (started o.ranks (length starts)) (events_of_all moves)
  pub after : after_all (started o.ranks (length starts)) (events_of_all moves) ≡ world_of stage

abbrev pub MovesAreLegalRun : Type 0
MovesAreLegalRun = (o : Options) (starts : Strings) (moves : List (ℕ × Move)) (stage : Stage)
    → o.stop_after ≡ None → Plays o moves (begun o starts) stage → IsRunTo o starts moves stage
