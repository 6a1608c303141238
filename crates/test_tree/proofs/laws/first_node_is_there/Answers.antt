use Rattle.test_tree.proofs.Lawful.{first_node_is_there}
use Rattle.test_tree.proofs.laws.first_node_is_there.Goals as goal

pub returns : goal.returns
returns c = first_node_is_there
