use Rattle.circle_run.proofs.Counted.{as_often}
use Rattle.circle_run.proofs.laws.balance_is_as_often.Goals as goal

pub returns : goal.returns
returns c = as_often
