use Rattle.tree_copy.proofs.Apart.{placed_are_apart}
use Rattle.tree_copy.proofs.laws.placed_are_apart.Goals as goal

pub returns : goal.returns
returns c = placed_are_apart
