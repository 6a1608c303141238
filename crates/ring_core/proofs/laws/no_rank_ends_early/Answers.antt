use Rattle.ring_core.proofs.RunLemmas.{no_rank_ends_early}
use Rattle.ring_core.proofs.laws.no_rank_ends_early.Goals as goal

pub returns : goal.returns
returns c = no_rank_ends_early
