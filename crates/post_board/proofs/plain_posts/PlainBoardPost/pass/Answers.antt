use Rattle.post_board.proofs.Prelude.{refl}
use Rattle.post_board.proofs.PlainToken.{pass_deed}
use Rattle.post_board.proofs.PlainDone.{own_read, done_kept}
use Rattle.post_board.proofs.plain_posts.PlainBoardPost.pass.Goals as goal

pub returns : goal.returns
returns c =
    let b = c.args.self.now in let s = c.args.seat.now in let rank = c.index_mut.result.now in
    let read = own_read b s c.requires.seat rank c.index_mut.ensures.value in
    let done = done_kept b s c.requires.seat _
    (pass_deed b.ranks.items b.token s rank c.held.result c.darker-colour.result read c.held.ensures c.darker-colour.ensures
    c.requires.seat.0 c.requires.live.0 c.requires.free.0 c.requires.here c.requires.tried c.requires.above) read refl
    (refl, refl, refl, refl) c.requires.live.1 in
    record { shown = refl; still = λ e. cc; told = done.told; reads = refl; mine = done.mine; others = done.others }
