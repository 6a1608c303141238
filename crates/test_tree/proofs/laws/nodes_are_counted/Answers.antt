use Rattle.test_tree.proofs.Lawful.{nodes_are_counted}
use Rattle.test_tree.proofs.laws.nodes_are_counted.Goals as goal

pub returns : goal.returns
returns c = nodes_are_counted
