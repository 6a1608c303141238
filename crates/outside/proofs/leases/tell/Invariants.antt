use Rattle.outside.proofs.AllPaths.{FirstValid}
use Rattle.outside.proofs.leases.tell.Given as goal

abbrev pub invariant-loop-path : goal.invariant-loop-path
invariant-loop-path l = FirstValid l.paths l.path-index
