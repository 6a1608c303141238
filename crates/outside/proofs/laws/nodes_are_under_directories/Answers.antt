use Rattle.outside.proofs.Over.{under_dirs}
use Rattle.outside.proofs.laws.nodes_are_under_directories.Goals as goal

pub returns : goal.returns
returns c = λ files q p tree fine u there. under_dirs files tree q p fine u there
