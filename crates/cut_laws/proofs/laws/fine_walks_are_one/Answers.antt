use Rattle.cut_laws.proofs.Restart.{fine_walks_are_one}
use Rattle.cut_laws.proofs.laws.fine_walks_are_one.Goals as goal

pub returns : goal.returns
returns c = fine_walks_are_one
