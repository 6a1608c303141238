use Rattle.post_board.proofs.Prelude.{arith}
use Rattle.post_board.proofs.MailboxSteps.{allows_scan}
use Rattle.post_board.proofs.boards.Board.scan_step.Goals as goal

pub load-requires : goal.load-requires
load-requires c = (
  c.requires.mine.table,
  (let a = c.args.self.now.sized.0 in let b = c.requires.other in omega arith),
  allows_scan _ _ _ _ _ c.requires.mine.going,
)
