use Rattle.outside.proofs.PartTrees.{leases_keep_trees}
use Rattle.outside.proofs.laws.leases_keep_trees.Goals as goal

pub returns : goal.returns
returns c = leases_keep_trees
