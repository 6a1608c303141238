use Rattle.outside.proofs.Names.{children_are_names}
use Rattle.outside.proofs.laws.children_have_names.Goals as goal

pub returns : goal.returns
returns c = children_are_names
