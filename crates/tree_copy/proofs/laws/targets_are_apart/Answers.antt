use Rattle.tree_copy.proofs.Off.{targets_are_apart}
use Rattle.tree_copy.proofs.laws.targets_are_apart.Goals as goal

pub returns : goal.returns
returns c = targets_are_apart
