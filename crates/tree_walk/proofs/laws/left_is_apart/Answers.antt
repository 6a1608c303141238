use Rattle.tree_walk.proofs.Restarts.{left_is_apart}
use Rattle.tree_walk.proofs.laws.left_is_apart.Goals as goal

pub returns : goal.returns
returns c = left_is_apart
