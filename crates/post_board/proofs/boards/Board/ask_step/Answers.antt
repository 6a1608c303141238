use Rattle.post_board.proofs.Prelude.{arith}
use Rattle.post_board.proofs.MailboxSteps.{allows_ask}
use Rattle.post_board.proofs.boards.Board.ask_step.Goals as goal

pub swap-requires : goal.swap-requires
swap-requires c = (
  c.requires.mine.table,
  (let a = c.args.self.now.sized.0 in let b = c.requires.mine.inside in omega arith),
  allows_ask _ _ _ _ _ _ c.requires.mine.going c.requires.mine.number c.requires.rests
      (let e = c.requires.mine.sized in let h = c.requires.victim.0 in omega arith) c.requires.victim.1,
)
