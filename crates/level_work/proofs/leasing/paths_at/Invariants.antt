use Rattle.level_work.proofs.Prelude.{AreFirstPaths}
use Rattle.level_work.proofs.leasing.paths_at.Given as goal

abbrev pub invariant-loop-j : goal.invariant-loop-j
invariant-loop-j l = AreFirstPaths l.j l.items l.places l.paths.items
