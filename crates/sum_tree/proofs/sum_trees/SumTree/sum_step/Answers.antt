use Rattle.sum_tree.proofs.Prelude.{arith}
use Rattle.sum_tree.proofs.SeatSteps.{sum_at}
use Rattle.sum_tree.proofs.sum_trees.SumTree.sum_step.Goals as goal

pub load-requires : goal.load-requires
load-requires c = (
  c.requires.fits,
  (let a = c.args.self.now.sized in let b = c.requires.some in omega arith),
  sum_at c.args.self.now.n c.args.self.now.width _ _ _ _ _ c.args.self.now.keyed c.requires.live,
)
