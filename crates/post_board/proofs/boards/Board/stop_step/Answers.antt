use Rattle.post_board.proofs.Prelude.{ℕ, ◌^◌, ◌∙◌, arith, sym, ap}
use Rattle.post_board.proofs.HaltSteps.{allows_stop_at}
use Rattle.post_board.proofs.boards.Board.stop_step.Goals as goal

pub bit_of-requires : goal.bit_of-requires
bit_of-requires c = let a = c.requires.mine.inside in let b = c.args.self.now.few in omega arith

pub fetch_or-requires : goal.fetch_or-requires
fetch_or-requires c = (
  c.requires.mine.table,
  (let a = c.args.self.now.sized.0 in omega arith),
  allows_stop_at _ _ _ _ _ _ c.requires.mine.going c.requires.rests c.requires.idle (let k = c.args.self.now.keyed in omega arith)
      (c.bit_of.ensures ∙ ap (λ (k : ℕ). 2 ^ k) (sym c.requires.mine.number)),
)
