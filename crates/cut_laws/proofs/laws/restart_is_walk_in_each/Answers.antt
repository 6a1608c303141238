use Rattle.cut_laws.proofs.Restart.{restart_is_walk_in_each}
use Rattle.cut_laws.proofs.laws.restart_is_walk_in_each.Goals as goal

pub returns : goal.returns
returns c = restart_is_walk_in_each
