use Rattle.path_text.proofs.Parts.{graft_undoes_below}
use Rattle.path_text.proofs.laws.graft_undoes_below.Goals as goal

pub returns : goal.returns
returns c = graft_undoes_below
