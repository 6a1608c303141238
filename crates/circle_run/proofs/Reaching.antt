-- Stages that are reached from the start, with their worlds.
use Rattle.circle_run.proofs.Prelude.{◌≡◌, ℕ, refl, sym, ◌∙◌, List, [], ◌∷◌, ◌++◌, length, length-set, set, None, Seen, fresh, dealt, started, after_all}
use Rattle.circle_run.proofs.Prelude.{Strings, Told, Move, events_of, Does, RankSide, Stage, rank_side, side, Plays, begun, Options, length-map-range_with_len}
use Rattle.circle_run.proofs.Stopping.{moves_halt}
use Rattle.circle_run.proofs.Runs.{queues, Shows, Reaches, step_reaches, shows_begun}
use Rattle.circle_run.proofs.Begun.{ranks_begun}
use Rattle.circle_run.proofs.Lasting.{Plays-append}

-- a stage that is reached, and its world
pub record Reached (o : Options) (starts : Strings) (past : List (ℕ × Move)) (w : Seen) (stage : Stage) : Type 0 where
  -- the run stops after no number
  pub endless : o.stop_after ≡ None
  pub plays : Plays o past (begun o starts) stage
  pub shows : Shows w stage.told (queues stage.ranks)
  pub ranks : length stage.ranks ≡ o.ranks
  pub sized : length w.0 ≡ o.ranks

module _ (o : Options) (starts : Strings) where
  pub step : (past : List (ℕ × Move)) (w : Seen) (from : Stage) (m : ℕ × Move) (x : RankSide) (t : Told) → Reached o starts past w from
      → Does o m.0 m.1 (side (rank_side from m.0) from.told) (side x t)
      → Reached o starts (past ++ m ∷ []) (after_all w (events_of m.0 m.1)) (record { ranks = set from.ranks m.0 x; told = t })
  step past w from m x t reached does =
      let next : Stage = record { ranks = set from.ranks m.0 x; told = t } in
      let reaches : Reaches w (events_of m.0 m.1) t (queues (set from.ranks m.0 x)) =
      step_reaches o reached.endless m w from x t (moves_halt o starts past from reached.plays) reached.shows (reached.ranks ∙ sym reached.sized) does in
      record {
        endless = reached.endless;
        plays = Plays-append o past (m ∷ []) (begun o starts) from next reached.plays (x, t, does, refl);
        shows = reaches.shows;
        ranks = length-set from.ranks m.0 x ∙ reached.ranks;
        sized = reaches.sized ∙ reached.sized;
      }

pub reached_at_start : (o : Options) (starts : Strings) → o.stop_after ≡ None → Reached o starts [] (started o.ranks (length starts)) (begun o starts)
reached_at_start o starts endless = record {
  endless = endless;
  plays = refl;
  shows = shows_begun o starts;
  ranks = ranks_begun o starts;
  sized = length-map-range_with_len (λ r. fresh (dealt o.ranks (length starts) r)) 0 o.ranks;
}
