use Rattle.post_board.proofs.Prelude.{◌≡◌, SameFields}
use Rattle.post_board.proofs.CallLemmas.{Looked}
use Rattle.post_board.proofs.board_posts.RefBoardPost.next_request.Given as goal

abbrev pub invariant-loop-r : goal.invariant-loop-r
invariant-loop-r l = record {
  table : l.seat.seat.table_id ≡ l.fn.seat.seat.table_id;
  same : SameFields l.fn.seat l.seat;
  held : l.seat.held ≡ l.fn.seat.held;
  looked : Looked l.fn.seat.number l.r l.fn.seat.seat.me l.seat.seat.me;
}
