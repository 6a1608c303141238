use Rattle.post_board.proofs.Prelude.{◌≡◌, ◌<◌, ℕ, None, length, replicate, get_or, fresh_rank, shown_by, PlainSeat}
use Rattle.post_board.specs.Fresh.{fresh}
use Rattle.post_board.proofs.plain_boards.PlainBoard.make.Given as goal

abbrev pub invariant-loop-number : goal.invariant-loop-number
invariant-loop-number l = record {
  ranks : l.ranks.items ≡ replicate l.number fresh_rank;
  count : length l.seats.items ≡ l.number;
  each : (k : ℕ) (d : PlainSeat) → k < l.number → shown_by (get_or l.seats.items k d) ≡ fresh l.n k None;
}
