use Rattle.ring_core.proofs.RunLemmas.{WorldInvariant-after_all}
use Rattle.ring_core.proofs.laws.run_keeps_invariant.Goals as goal

pub returns : goal.returns
returns c = λ world events run held. WorldInvariant-after_all events world run held
