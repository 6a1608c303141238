use Rattle.sum_tree.proofs.Prelude.{arith}
use Rattle.sum_tree.proofs.SeatSteps.{deals_at}
use Rattle.sum_tree.proofs.sum_trees.SumTree.deal_step.Goals as goal

pub split_seat-requires : goal.split_seat-requires
split_seat-requires c = (
  c.requires.fits,
  (let a = c.args.self.now.sized in let b = c.requires.next.4 in omega arith),
  deals_at c.args.self.now.n c.args.self.now.width _ _ _ c.args.self.now.keyed (let a = c.requires.next.0 in let b = c.requires.next.1 in
      omega arith) (let a = c.requires.next.1 in let b = c.requires.next.2 in let d = c.requires.next.4 in omega arith) c.requires.next.5,
)
