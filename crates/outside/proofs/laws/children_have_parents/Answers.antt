use Rattle.outside.proofs.Parents.{child_of_parent}
use Rattle.outside.proofs.laws.children_have_parents.Goals as goal

pub returns : goal.returns
returns c = child_of_parent
