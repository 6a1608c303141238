use Rattle.post_board.proofs.Prelude.{arith}
use Rattle.post_board.proofs.MailboxSteps.{allows_take}
use Rattle.post_board.proofs.boards.Board.take_step.Goals as goal

pub compare_exchange-found-requires : goal.compare_exchange-found-requires
compare_exchange-found-requires c = (
  c.requires.mine.table,
  (let a = c.args.self.now.sized.0 in let b = c.requires.other.0 in omega arith),
  allows_take _ _ _ _ _ _ c.requires.mine.going c.requires.mine.number
      (let e = c.requires.mine.sized in let h = c.requires.other.0 in omega arith) c.requires.other.1,
)
