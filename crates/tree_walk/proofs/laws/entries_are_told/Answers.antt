use Rattle.tree_walk.proofs.Told.{entries_are_told}
use Rattle.tree_walk.proofs.laws.entries_are_told.Goals as goal

pub returns : goal.returns
returns c = entries_are_told
