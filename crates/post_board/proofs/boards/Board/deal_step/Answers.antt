use Rattle.post_board.proofs.Prelude.{arith}
use Rattle.post_board.proofs.SeatSteps.{deals}
use Rattle.post_board.proofs.boards.Board.deal_step.Goals as goal

pub split_seat-requires : goal.split_seat-requires
split_seat-requires c = (
  c.requires.fits,
  (let a = c.args.self.now.sized.0 in omega arith),
  deals _ _ _ (let a = c.requires.next.0 in let b = c.requires.next.1 in omega arith) (let a = c.requires.next.1 in let b = c.requires.next.2 in
      let d = c.requires.next.3 in omega arith) c.requires.next.4,
)
