use Rattle.tree_walk.proofs.Complete.{walk_lists_all}
use Rattle.tree_walk.proofs.laws.walk_lists_all.Goals as goal

pub returns : goal.returns
returns c = walk_lists_all
