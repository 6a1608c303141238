use Rattle.cut_laws.proofs.Restart.{restart_finds_the_walk}
use Rattle.cut_laws.proofs.laws.restart_finds_the_walk.Goals as goal

pub returns : goal.returns
returns c = restart_finds_the_walk
