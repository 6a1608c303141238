use Rattle.level_work.proofs.Prelude.{AreStored}
use Rattle.level_work.proofs.storing.store_shares.Given as goal

abbrev pub invariant-loop-i : goal.invariant-loop-i
invariant-loop-i g l = AreStored l.i l.lots l.fn.fates l.fates
