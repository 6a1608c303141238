use Rattle.post_board.proofs.Prelude.{◌≡◌, ◌∙◌, sym, arith, Open, Left}
use Rattle.post_board.proofs.MailboxSteps.{allows_look}
use Rattle.post_board.proofs.boards.Board.look_step.Goals as goal

pub load-requires : goal.load-requires
load-requires c = (
  c.requires.mine.table,
  (let a = c.args.self.now.sized.0 in let b = c.requires.mine.inside in omega arith),
  allows_look _ _ _ _ _ c.requires.mine.going c.requires.mine.number
      (λ v e. (let p = c.requires.open in let q : Open p.0 ≡ Left v = sym p.1 ∙ e in cc)),
)
