use Rattle.test_tree.proofs.Lawful.{test_files_are_tree}
use Rattle.test_tree.proofs.laws.test_files_are_tree.Goals as goal

pub returns : goal.returns
returns c = test_files_are_tree
