use Rattle.outside.proofs.Names.{placed_path}
use Rattle.outside.proofs.laws.nodes_have_paths.Goals as goal

pub returns : goal.returns
returns c = λ files path tree some. placed_path files path tree some
