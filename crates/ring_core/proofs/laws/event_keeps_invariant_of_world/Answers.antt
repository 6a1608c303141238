use Rattle.ring_core.proofs.WorldLemmas.{event_keeps_world_invariant}
use Rattle.ring_core.proofs.laws.event_keeps_invariant_of_world.Goals as goal

pub returns : goal.returns
returns c = λ world event legal held. event_keeps_world_invariant world.0 world.1 event legal held
