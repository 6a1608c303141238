use Rattle.post_board.proofs.Prelude.{ℕ, ◌-◌, ◌∙◌, ⊎_elim, inl, inr, sym, ap, arith, White, At, word_of_token}
use Rattle.post_board.proofs.RingSteps.{allows_restart}
use Rattle.post_board.proofs.boards.Board.restart_step.Goals as goal

pub swap-requires : goal.swap-requires
swap-requires c = (
  c.requires.mine.table,
  (let a = c.args.self.now.sized.0 in omega arith),
  allows_restart _ _ _ _ c.args.token _ c.requires.mine.going c.requires.rests
      (⊎_elim (λ e. inl (c.requires.mine.sized ∙ e)) (λ e. inr e) c.requires.tried) c.requires.here c.requires.mine.number c.requires.black
      (c.requires.word ∙ ap (λ (k : ℕ). word_of_token (At (k - 1) White)) (sym c.requires.mine.sized)),
)
