use Rattle.path_text.proofs.Moved.{below_undoes_graft}
use Rattle.path_text.proofs.laws.below_undoes_graft.Goals as goal

pub returns : goal.returns
returns c = below_undoes_graft
