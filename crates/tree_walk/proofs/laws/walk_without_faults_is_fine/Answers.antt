use Rattle.tree_walk.proofs.Lawful.{walk_without_faults_is_fine}
use Rattle.tree_walk.proofs.laws.walk_without_faults_is_fine.Goals as goal

pub returns : goal.returns
returns c = walk_without_faults_is_fine
