use Rattle.tree_walk.proofs.Lawful.{walk_is_recursive}
use Rattle.tree_walk.proofs.laws.walk_is_recursive.Goals as goal

pub returns : goal.returns
returns c = walk_is_recursive
