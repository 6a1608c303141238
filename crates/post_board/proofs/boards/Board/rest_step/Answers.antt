use Rattle.post_board.proofs.Prelude.{arith}
use Rattle.post_board.proofs.MailboxSteps.{allows_rest}
use Rattle.post_board.proofs.boards.Board.rest_step.Goals as goal

pub swap-requires : goal.swap-requires
swap-requires c = (
  c.requires.mine.table,
  (let a = c.args.self.now.sized.0 in let b = c.requires.mine.inside in omega arith),
  allows_rest _ _ _ _ c.args.from _ c.requires.mine.going c.requires.mine.number c.requires.gets c.requires.slot,
)
