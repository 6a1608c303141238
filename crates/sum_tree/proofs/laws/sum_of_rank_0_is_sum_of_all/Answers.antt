use Rattle.sum_tree.proofs.Trees.{sum_of_all}
use Rattle.sum_tree.proofs.laws.sum_of_rank_0_is_sum_of_all.Goals as goal

pub returns : goal.returns
returns c = sum_of_all
