use Rattle.outside.proofs.Prelude.{◌≡◌, take}
use Rattle.outside.proofs.leases.copies.Given as goal

abbrev pub invariant-loop-path : goal.invariant-loop-path
invariant-loop-path l = l.copies.items ≡ take l.path-index l.paths
