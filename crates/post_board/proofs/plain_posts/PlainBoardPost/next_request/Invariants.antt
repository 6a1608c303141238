use Rattle.post_board.proofs.Prelude.{◌≡◌, NoneAsks, shown_by, told_by}
use Rattle.post_board.proofs.plain_posts.PlainBoardPost.next_request.Given as goal

abbrev pub invariant-loop-r : goal.invariant-loop-r
invariant-loop-r l = (l.self ≡ l.initial.self) × (l.seat ≡ l.initial.seat) × NoneAsks (shown_by l.initial.seat) l.r (told_by l.initial.self)
