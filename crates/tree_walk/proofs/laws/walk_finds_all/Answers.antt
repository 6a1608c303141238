use Rattle.tree_walk.proofs.Lawful.{walk_finds_all}
use Rattle.tree_walk.proofs.laws.walk_finds_all.Goals as goal

pub returns : goal.returns
returns c = walk_finds_all
