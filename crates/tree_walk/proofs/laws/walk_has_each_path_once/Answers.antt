use Rattle.tree_walk.proofs.Lawful.{walk_has_each_path_once}
use Rattle.tree_walk.proofs.laws.walk_has_each_path_once.Goals as goal

pub returns : goal.returns
returns c = walk_has_each_path_once
