use Rattle.circle_run.proofs.Ends.{nothing_waits_at_end}
use Rattle.circle_run.proofs.laws.nothing_waits_at_end.Goals as goal

pub returns : goal.returns
returns c = nothing_waits_at_end c.no_rank_ends_early.ensures c.legal_event_is_step_of_picture.ensures.start c.legal_event_is_step_of_picture.ensures.kept
