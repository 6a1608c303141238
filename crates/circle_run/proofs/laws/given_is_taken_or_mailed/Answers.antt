use Rattle.circle_run.proofs.Totals.{given_is_taken_or_mailed}
use Rattle.circle_run.proofs.laws.given_is_taken_or_mailed.Goals as goal

pub returns : goal.returns
returns c = given_is_taken_or_mailed
