use Rattle.post_board.proofs.Prelude.{◌∙◌, ⊎_elim, inl, inr, refl, arith}
use Rattle.post_board.proofs.RingSteps.{allows_conclude}
use Rattle.post_board.proofs.boards.Board.conclude_step.Goals as goal

pub swap-requires : goal.swap-requires
swap-requires c = (
  c.requires.mine.table,
  (let a = c.args.self.now.sized.0 in omega arith),
  allows_conclude _ _ _ _ _ c.requires.mine.going c.requires.rests
      (⊎_elim (λ e. inl (c.requires.mine.sized ∙ e)) (λ e. inr e) c.requires.tried) c.requires.here c.requires.mine.number c.requires.white refl,
)
