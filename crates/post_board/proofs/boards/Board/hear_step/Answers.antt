use Rattle.post_board.proofs.Prelude.{arith}
use Rattle.post_board.proofs.HaltSteps.{allows_load_halt_at}
use Rattle.post_board.proofs.boards.Board.hear_step.Goals as goal

pub load-requires : goal.load-requires
load-requires c = (
  c.requires.mine.table,
  (let a = c.args.self.now.sized.0 in omega arith),
  allows_load_halt_at _ _ _ _ _ c.requires.mine.going (let k = c.args.self.now.keyed in omega arith),
)
