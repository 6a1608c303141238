use Rattle.post_board.proofs.Prelude.{arith}
use Rattle.post_board.proofs.MailboxSteps.{allows_fetch}
use Rattle.post_board.proofs.boards.Board.fetch_step.Goals as goal

pub swap-requires : goal.swap-requires
swap-requires c = (
  c.requires.mine.table,
  (let a = c.args.self.now.sized.0 in let b = c.requires.mine.inside in omega arith),
  allows_fetch _ _ _ _ _ _ c.requires.mine.going c.requires.mine.number c.requires.full,
)
