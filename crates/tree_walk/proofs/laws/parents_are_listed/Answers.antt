use Rattle.tree_walk.proofs.Parents.{parents_are_listed}
use Rattle.tree_walk.proofs.laws.parents_are_listed.Goals as goal

pub returns : goal.returns
returns c = parents_are_listed
