use Rattle.circle_run.proofs.Prelude.{never}
use Rattle.circle_run.proofs.hosts.unset.Goals as goal

pub returns-clause-unset : goal.returns-clause-unset
returns-clause-unset c = never 64
