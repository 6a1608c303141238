use Rattle.sum_tree.proofs.Prelude.{arith, sym}
use Rattle.sum_tree.proofs.WordSteps.{finish_at}
use Rattle.sum_tree.proofs.sum_trees.SumTree.final_step.Goals as goal

pub store-requires : goal.store-requires
store-requires c = (
  c.requires.mine.table,
  (let a = c.args.self.now.sized in let b = c.requires.mine.inside in omega arith),
  finish_at c.args.self.now.n c.args.self.now.width _ _ _ _ c.args.count _ _ c.args.self.now.keyed
      (sym c.requires.mine.number) c.requires.mine.live c.requires.counting c.requires.count.0 c.requires.count.1 c.requires.new
      c.requires.mine.sized c.requires.mine.wide c.requires.all,
)
