use Rattle.circle_run.proofs.Prompt.{moves_answer_first}
use Rattle.circle_run.proofs.laws.moves_answer_first.Goals as goal

pub returns : goal.returns
returns c = moves_answer_first
