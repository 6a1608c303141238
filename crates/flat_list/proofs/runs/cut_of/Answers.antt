use Rattle.flat_list.proofs.Merged.{log_more}
use Rattle.flat_list.proofs.runs.cut_of.Goals as goal

pub loop-log-preserved : goal.loop-log-preserved
loop-log-preserved c = log_more (λ log. log) c.loop-log.yielded c.in-Some.log _ _ c.loop-log.invariant c.in_ok-read.ensures
