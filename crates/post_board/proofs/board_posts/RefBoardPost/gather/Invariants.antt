use Rattle.post_board.proofs.Prelude.{◌≡◌, true, length}
use Rattle.post_board.proofs.GatherLemmas.{Together}
use Rattle.post_board.proofs.board_posts.RefBoardPost.gather.Given as goal

abbrev pub invariant-loop-other : goal.invariant-loop-other
invariant-loop-other l = record {
  table : l.first.table_id ≡ l.fn.self.now.table.shared.table_id;
  board : l.self ≡ l.fn.self;
  live : l.first.me.0.live ≡ true;
  together : Together l.fn.all.items l.all.items l.first.me.0 l.over;
}

abbrev pub decreases-loop-other : goal.decreases-loop-other
decreases-loop-other l = length l.all.items
