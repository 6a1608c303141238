use Rattle.circle_run.proofs.Runs.{moves_are_legal_run}
use Rattle.circle_run.proofs.laws.moves_are_legal_run.Goals as goal

pub returns : goal.returns
returns c = moves_are_legal_run
