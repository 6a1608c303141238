use Rattle.tree_copy.proofs.Due.{sources_of}
use Rattle.tree_copy.proofs.placing.place.Goals as goal

pub returns-clause-sources : goal.returns-clause-sources
returns-clause-sources g c = sources_of (λ pairs. pairs.items) _ _ _ c.args.sources.now c.decided.result c.decided.ensures.told
