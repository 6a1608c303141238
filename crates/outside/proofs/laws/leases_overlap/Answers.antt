use Rattle.outside.proofs.Overlap.{leases_overlap}
use Rattle.outside.proofs.laws.leases_overlap.Goals as goal

pub returns : goal.returns
returns c = leases_overlap
