use Rattle.post_board.proofs.Prelude.{◌≢◌, ℕ, ◌<◌, get_or}
use Rattle.post_board.proofs.board_batches.place_in.Given as goal

abbrev pub invariant-loop-i : goal.invariant-loop-i
invariant-loop-i l = (k : ℕ) → k < l.i → get_or l.held.items k l.to ≢ l.to
