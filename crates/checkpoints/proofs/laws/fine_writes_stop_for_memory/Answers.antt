use Rattle.checkpoints.proofs.Fine.{writes_for_memory}
use Rattle.checkpoints.proofs.laws.fine_writes_stop_for_memory.Goals as goal

pub returns : goal.returns
returns c = writes_for_memory c.fine_places_stop_for_memory.ensures
