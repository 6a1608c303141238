use Rattle.post_board.proofs.Prelude.{arith}
use Rattle.post_board.proofs.RingSteps.{allows_hear}
use Rattle.post_board.proofs.boards.Board.ring_step.Goals as goal

pub load-requires : goal.load-requires
load-requires c = (
  c.requires.mine.table,
  (let a = c.args.self.now.sized.0 in omega arith),
  allows_hear _ _ _ _ c.requires.mine.going,
)
