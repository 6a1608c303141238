use Rattle.tree_walk.proofs.Restarts.{cut_goes_on}
use Rattle.tree_walk.proofs.laws.cut_goes_on.Goals as goal

pub returns : goal.returns
returns c = cut_goes_on
