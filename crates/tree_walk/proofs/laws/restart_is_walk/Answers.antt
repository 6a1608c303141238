use Rattle.tree_walk.proofs.Restarts.{restart_is_walk}
use Rattle.tree_walk.proofs.laws.restart_is_walk.Goals as goal

pub returns : goal.returns
returns c = restart_is_walk
