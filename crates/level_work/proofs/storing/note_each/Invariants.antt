use Rattle.level_work.proofs.Prelude.{IsNoted}
use Rattle.level_work.proofs.storing.note_each.Given as goal

abbrev pub invariant-loop-t : goal.invariant-loop-t
invariant-loop-t l = IsNoted l.t l.items l.fates l.places l.fn.failed.set.keys l.failed.set.keys
