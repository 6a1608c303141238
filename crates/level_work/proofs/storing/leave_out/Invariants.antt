use Rattle.level_work.proofs.Prelude.{IsLeftOut}
use Rattle.level_work.proofs.storing.leave_out.Given as goal

abbrev pub invariant-loop-j : goal.invariant-loop-j
invariant-loop-j l = IsLeftOut l.j l.places l.fn.fates l.fates
