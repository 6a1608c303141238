use Rattle.cut_laws.proofs.Local.{walks_are_local}
use Rattle.cut_laws.proofs.laws.walks_are_local.Goals as goal

pub returns : goal.returns
returns c = walks_are_local
