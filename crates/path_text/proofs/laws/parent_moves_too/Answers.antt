use Rattle.path_text.proofs.Carried.{parent_moves_too}
use Rattle.path_text.proofs.laws.parent_moves_too.Goals as goal

pub returns : goal.returns
returns c = parent_moves_too
