use Rattle.circle_run.proofs.Stopping.{moves_halt}
use Rattle.circle_run.proofs.laws.moves_halt.Goals as goal

pub returns : goal.returns
returns c = moves_halt
