use Rattle.level_work.proofs.Prelude.{IsStored}
use Rattle.level_work.proofs.storing.store_share.Given as goal

abbrev pub invariant-loop-j : goal.invariant-loop-j
invariant-loop-j g l = IsStored l.j l.lot.places.items l.lot.fates.items l.fn.fates l.fates
