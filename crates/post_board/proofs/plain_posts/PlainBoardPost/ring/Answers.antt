use Rattle.post_board.proofs.Prelude.{refl, inr}
use Rattle.post_board.proofs.PlainDeeds.{over_deed}
use Rattle.post_board.proofs.PlainToken.{over_quiet}
use Rattle.post_board.proofs.PlainDone.{own_read, done_kept}
use Rattle.post_board.proofs.plain_posts.PlainBoardPost.ring.Goals as goal

pub returns-in-Over : goal.returns-in-Over
returns-in-Over c =
    let b = c.args.self.now in let s = c.args.seat.now in let rank = c.index_mut.result.now in
    let read = own_read b s c.requires.seat rank c.index_mut.ensures.value in
    let done = done_kept b s c.requires.seat _
    (over_deed b.ranks.items b.token s rank read c.in-Over.is c.requires.seat.0 c.requires.live.0) read refl
    (refl, refl, refl, refl) c.requires.live.1 in
    record {
      shown = refl;
      over = λ _. over_quiet b.ranks.items b.token s c.requires.seat.0 c.in-Over.is;
      elsewhere = λ e. cc;
      halted = λ _. inr refl;
      still = λ e. cc;
      told = done.told;
      reads = refl;
      mine = done.mine;
      others = done.others;
    }
