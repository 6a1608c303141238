use Rattle.test_tree.proofs.Lawful.{no_child_is_far}
use Rattle.test_tree.proofs.laws.no_child_is_far.Goals as goal

pub returns : goal.returns
returns c = no_child_is_far
