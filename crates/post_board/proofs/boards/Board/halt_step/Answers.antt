use Rattle.post_board.proofs.Prelude.{arith}
use Rattle.post_board.proofs.HaltSteps.{allows_set_halt_at}
use Rattle.post_board.proofs.boards.Board.halt_step.Goals as goal

pub swap-requires : goal.swap-requires
swap-requires c = (
  c.requires.mine.table,
  (let a = c.args.self.now.sized.0 in omega arith),
  allows_set_halt_at _ _ _ _ _ c.requires.mine.going (let k = c.args.self.now.keyed in omega arith),
)
