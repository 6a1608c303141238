use Rattle.cut_laws.proofs.Local.{cuts_are_local}
use Rattle.cut_laws.proofs.laws.cuts_are_local.Goals as goal

pub returns : goal.returns
returns c = cuts_are_local
