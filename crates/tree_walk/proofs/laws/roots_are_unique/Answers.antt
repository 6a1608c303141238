use Rattle.tree_walk.proofs.Unique.{roots_are_unique}
use Rattle.tree_walk.proofs.laws.roots_are_unique.Goals as goal

pub returns : goal.returns
returns c = roots_are_unique
