use Rattle.post_board.proofs.Prelude.{ℕ, ◌-◌, ◌∙◌, sym, ap, arith, darker, At, word_of_token}
use Rattle.post_board.proofs.RingSteps.{allows_pass}
use Rattle.post_board.proofs.boards.Board.pass_step.Goals as goal

pub swap-requires : goal.swap-requires
swap-requires c = (
  c.requires.mine.table,
  (let a = c.args.self.now.sized.0 in omega arith),
  allows_pass _ _ _ _ c.args.token _ c.requires.mine.going c.requires.rests c.requires.tried c.requires.here
      (let e = c.requires.mine.number in let h = c.requires.above in omega arith)
      (c.requires.word ∙ ap (λ (k : ℕ). word_of_token (At (k - 1) (darker c.args.seat.now.me.0.own.colour c.args.token))) (sym c.requires.mine.number)),
)
