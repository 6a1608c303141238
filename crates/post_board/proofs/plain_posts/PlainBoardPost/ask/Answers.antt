use Rattle.post_board.proofs.Prelude.{◌∙◌, refl, sym, subst, ℕ, ◌<◌, false, Noted, Wants}
use Rattle.post_board.proofs.PlainDeeds.{ask_deed}
use Rattle.post_board.proofs.AskerLemmas.{noted_asks, rests}
use Rattle.post_board.proofs.PlainHalts.{done_by, keeps_put}
use Rattle.post_board.proofs.PlainDone.{own_read}
use Rattle.post_board.proofs.plain_posts.PlainBoardPost.ask.Goals as goal

pub returns : goal.returns
returns c =
    let b = c.args.self.now in let s = c.args.seat.now in let rank = c.index_mut-rank.result.now in
    let read = own_read b s c.requires.seat rank c.index_mut-rank.ensures.value in
    let fits = c.requires.seat.0.0 in
    let done = done_by
    (ask_deed b.ranks.items b.token s rank c.args.victim read c.requires.seat.0 c.requires.live.0 c.requires.free.0 c.requires.victim.0 c.requires.victim.1)
    (subst (Noted _) (sym c.add.ensures) (noted_asks b.ranks.items b.askers.masks.items c.requires.seat.1 s.number fits.inside
    (record rank { busy = false; mailbox = Wants c.args.victim }) c.args.victim (subst (λ (n : ℕ). c.args.victim < n) fits.sized c.requires.victim.0)
    (rests b.ranks.items b.token s fits c.requires.free.0) refl))
    c.requires.seat.2 (keeps_put b.halter b.stops.items b.ranks.items s.number _ (c.requires.seat.2.own ∙ c.requires.live.1) (λ k e. cc))
    (refl, refl, refl, refl) in
    record { shown = refl; still = λ e. cc; told = done.told; reads = refl; mine = done.mine; others = done.others }
