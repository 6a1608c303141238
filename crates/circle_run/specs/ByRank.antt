-- The strings that each rank of a run handled, gave, took and has left. Our own.
use Rattle.std.specs.Prelude.{◌≡◌, ℕ, ◌<◌, List, length, map, slice_index_or}
use Rattle.std.specs.List.{flat_map, range_with_len}
use Rattle.post_board.specs.Shown.{Strings, Batches}
use Rattle.post_board.specs.Calls.{NoneOnTheWay}
use Rattle.circle_run.specs.Balance.{Log}
use Rattle.circle_run.specs.Moves.{Move, events_of}
use Rattle.circle_run.specs.Stages.{Stage, Plays, events_of_all, begun, dealt_to}
use Rattle.circle_run.specs.Books.{counted}
use Rattle.circle_run.specs.Apart.{RankRan, AllRan}
use Rattle.circle_run.specs.Traced.{share_in}
use Rattle.circle_run.specs.declared.outcomes.Share.{Share}
use Rattle.circle_run.specs.declared.settings.Options.{Options}

-- moves of all ranks were played on one host, from the deal of the starts on. They leave this at each rank and nothing on the way, and the
-- shares count their events
pub record Played (o : Options) (starts : Strings) (logs : List Log) (left : List Strings) (shares : List Share) : Type 0 where
  pub moves : List (ℕ × Move)
  pub last : Stage
  pub plays : Plays o moves (begun o starts) last
  pub mailboxes : NoneOnTheWay last.told
  pub logs_are : logs ≡ map (λ x. x.log) last.ranks
  pub left_are : left ≡ map (λ x. x.queue) last.ranks
  pub counts : shares ≡ map (share_in (events_of_all moves)) (range_with_len 0 o.ranks)

abbrev pub nothing_done : Share
nothing_done = record { handled = 0; given = 0; taken = 0 }

-- a rank that ran so, alone on a host or with others; its share counts the events of its moves
pub record RankPlayed (o : Options) (me : ℕ) (dealt : Strings) (log : Log) (left : Strings) (batches : Batches) (share : Share) : Type 0 where
  pub ran : RankRan o me dealt log left batches
  pub counts : share ≡ counted (flat_map (events_of me) ran.moves) nothing_done

-- all ranks of several hosts: each made moves of its own, and took from each other one the batches that the other gave
pub record PlayedApart (o : Options) (starts : Strings) (logs : List Log) (left : List Strings) (shares : List Share) : Type 0 where
  pub batches : List Batches
  pub all : AllRan o starts logs left batches
  pub as_many : length shares ≡ o.ranks
  pub each : (k : ℕ) (d : Log) (l : Strings) (b : Batches) (s : Share) → k < o.ranks
      → RankPlayed o k (dealt_to o.ranks starts k) (slice_index_or logs k d) (slice_index_or left k l) (slice_index_or batches k b)
      (slice_index_or shares k s)
