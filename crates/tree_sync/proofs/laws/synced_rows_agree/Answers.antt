use Rattle.tree_sync.proofs.Lawful.{synced_rows_agree}
use Rattle.tree_sync.proofs.laws.synced_rows_agree.Goals as goal

pub returns : goal.returns
returns c = synced_rows_agree c.nodes_have_paths.ensures
