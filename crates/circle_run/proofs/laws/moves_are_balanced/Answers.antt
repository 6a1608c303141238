use Rattle.circle_run.proofs.Totals.{moves_are_balanced, all_is_handled}
use Rattle.circle_run.proofs.laws.moves_are_balanced.Goals as goal

pub returns : goal.returns
returns c = record { always = moves_are_balanced; whole = all_is_handled }
