use Rattle.range_copy.proofs.Counted.{fresh}
use Rattle.range_copy.proofs.fillers.Filler.make.Goals as goal

pub returns-clause-fresh : goal.returns-clause-fresh
returns-clause-fresh g c = fresh c.peek-filled.result _ _ c.peek-filled.ensures.cause
