use Rattle.ring_core.proofs.RunLemmas.{WorldInvariant-started}
use Rattle.ring_core.proofs.laws.start_has_invariant.Goals as goal

pub returns : goal.returns
returns c = WorldInvariant-started
