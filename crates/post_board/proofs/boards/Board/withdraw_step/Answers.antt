use Rattle.post_board.proofs.Prelude.{arith}
use Rattle.post_board.proofs.HaltSteps.{allows_withdraw}
use Rattle.post_board.proofs.boards.Board.withdraw_step.Goals as goal

pub compare_exchange-requires : goal.compare_exchange-requires
compare_exchange-requires c = (
  c.requires.mine.table,
  (let a = c.args.self.now.sized.0 in let b = c.requires.mine.inside in omega arith),
  allows_withdraw _ _ _ _ _ _ c.requires.mine.going c.requires.mine.number c.requires.left,
)
