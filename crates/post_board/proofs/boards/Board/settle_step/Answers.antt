use Rattle.post_board.proofs.Prelude.{arith}
use Rattle.post_board.proofs.SeatSteps.{settles}
use Rattle.post_board.proofs.boards.Board.settle_step.Goals as goal

pub load-requires : goal.load-requires
load-requires c = (
  c.requires.fits,
  (let a = c.args.self.now.sized.0 in omega arith),
  settles _ _ _ _ _ c.requires.live
      (c.requires.done 0 c.args.seat.now.me.0.own (omega arith)),
)
