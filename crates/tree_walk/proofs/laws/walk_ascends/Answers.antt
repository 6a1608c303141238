use Rattle.tree_walk.proofs.Lawful.{walk_ascends}
use Rattle.tree_walk.proofs.laws.walk_ascends.Goals as goal

pub returns : goal.returns
returns c = walk_ascends
