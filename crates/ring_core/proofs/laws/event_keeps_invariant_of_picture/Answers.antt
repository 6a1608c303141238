use Rattle.ring_core.proofs.PictureLemmas.{event_keeps_invariant}
use Rattle.ring_core.proofs.laws.event_keeps_invariant_of_picture.Goals as goal

pub returns : goal.returns
returns c = event_keeps_invariant
