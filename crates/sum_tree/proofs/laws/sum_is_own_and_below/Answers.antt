use Rattle.sum_tree.proofs.Trees.{sum_is}
use Rattle.sum_tree.proofs.laws.sum_is_own_and_below.Goals as goal

pub returns : goal.returns
returns c = sum_is
