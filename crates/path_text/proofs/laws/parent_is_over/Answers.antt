use Rattle.path_text.proofs.Parents.{parent_is_over}
use Rattle.path_text.proofs.laws.parent_is_over.Goals as goal

pub returns : goal.returns
returns c = parent_is_over
