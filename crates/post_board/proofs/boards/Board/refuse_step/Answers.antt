use Rattle.post_board.proofs.Prelude.{arith}
use Rattle.post_board.proofs.MailboxSteps.{allows_refuse}
use Rattle.post_board.proofs.boards.Board.refuse_step.Goals as goal

pub swap-requires : goal.swap-requires
swap-requires c = (
  c.requires.mine.table,
  (let a = c.args.self.now.sized.0 in let b = c.requires.to.0 in omega arith),
  allows_refuse _ _ _ _ _ _ c.requires.mine.going c.requires.mine.number
      (let e = c.requires.mine.sized in let h = c.requires.to.0 in omega arith) c.requires.to.1 c.requires.slot,
)
