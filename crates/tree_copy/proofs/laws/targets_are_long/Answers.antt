use Rattle.tree_copy.proofs.Long.{targets_are_long}
use Rattle.tree_copy.proofs.laws.targets_are_long.Goals as goal

pub returns : goal.returns
returns c = targets_are_long
