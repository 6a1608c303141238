use Rattle.ring_core.proofs.WorldLemmas.{event_is_step_of_picture}
use Rattle.ring_core.proofs.RunLemmas.{NoEmptyBatch-started, NoEmptyBatch-ranks_after}
use Rattle.ring_core.proofs.laws.legal_event_is_step_of_picture.Goals as goal

pub returns : goal.returns
returns c = record {
  step = λ world event some legal. event_is_step_of_picture world.0 world.1 event some legal;
  start = NoEmptyBatch-started;
  kept = λ world event legal some. NoEmptyBatch-ranks_after world.0 world.1 event legal some;
}
