use Rattle.post_board.proofs.Prelude.{◌<◌, arith, common_steps}
use Rattle.post_board.proofs.board_batches.place_in.Goals as goal

pub unreachable-requires : goal.unreachable-requires
unreachable-requires c = let p = c.requires.has in let h : p.0 < c.loop-i.i = grind (arith, common_steps) in c.loop-i.invariant p.0 h p.2
