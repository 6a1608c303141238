use Rattle.post_board.proofs.Prelude.{arith}
use Rattle.post_board.proofs.SeatSteps.{joins}
use Rattle.post_board.proofs.boards.Board.join_step.Goals as goal

pub join_seat-requires : goal.join_seat-requires
join_seat-requires c = (
  c.requires.mine.0,
  c.requires.theirs.0,
  c.requires.theirs.2,
  (let a = c.args.self.now.sized.0 in omega arith),
  joins _ _ _ _ _ c.requires.mine.1 c.requires.theirs.1,
)
