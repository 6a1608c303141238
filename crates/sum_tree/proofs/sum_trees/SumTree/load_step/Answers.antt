use Rattle.sum_tree.proofs.Prelude.{arith}
use Rattle.sum_tree.proofs.WordSteps.{load_at}
use Rattle.sum_tree.proofs.sum_trees.SumTree.load_step.Goals as goal

pub load-requires : goal.load-requires
load-requires c = (
  c.requires.mine.table,
  (let a = c.args.self.now.sized in let b = c.requires.word in omega arith),
  load_at c.args.self.now.n c.args.self.now.width _ _ _ _ _ c.args.self.now.keyed c.requires.mine.live c.requires.word,
)
