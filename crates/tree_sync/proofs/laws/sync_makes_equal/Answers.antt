use Rattle.tree_sync.proofs.Lawful.{sync_makes_equal}
use Rattle.tree_sync.proofs.laws.sync_makes_equal.Goals as goal

pub returns : goal.returns
returns c = sync_makes_equal c.nodes_have_paths.ensures
