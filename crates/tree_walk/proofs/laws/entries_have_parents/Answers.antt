use Rattle.tree_walk.proofs.HaveParents.{entries_have_parents}
use Rattle.tree_walk.proofs.laws.entries_have_parents.Goals as goal

pub returns : goal.returns
returns c = entries_have_parents
