use Rattle.flat_list.proofs.Prelude.{◌≡◌, take}
use Rattle.flat_list.proofs.merging.sources_of.Given as goal

abbrev pub invariant-loop-run : goal.invariant-loop-run
invariant-loop-run l = l.sources.items ≡ take l.run-index l.runs
