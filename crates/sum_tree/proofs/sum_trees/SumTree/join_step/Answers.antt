use Rattle.sum_tree.proofs.Prelude.{arith}
use Rattle.sum_tree.proofs.SeatSteps.{joins_at}
use Rattle.sum_tree.proofs.sum_trees.SumTree.join_step.Goals as goal

pub join_seat-requires : goal.join_seat-requires
join_seat-requires c = (
  c.requires.mine.0,
  c.requires.theirs.0,
  c.requires.theirs.2,
  (let a = c.args.self.now.sized in let b = c.requires.some in omega arith),
  joins_at c.args.self.now.n c.args.self.now.width _ _ _ _ _ c.args.self.now.keyed c.requires.mine.1 c.requires.theirs.1,
)
