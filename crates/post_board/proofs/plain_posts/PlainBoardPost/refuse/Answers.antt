use Rattle.post_board.proofs.Prelude.{◌≡◌, ap, refl, false, sym, ◌∙◌, get_or_read, with_item, no_rank, plain, wants, PlainMailbox, Rest, Served}
use Rattle.post_board.proofs.PlainServing.{refuse_deed, serves_below}
use Rattle.post_board.proofs.AskerLemmas.{noted_same}
use Rattle.post_board.proofs.PlainHalts.{done_by, keeps_put, serves_on}
use Rattle.post_board.proofs.plain_posts.PlainBoardPost.refuse.Goals as goal

pub returns : goal.returns
returns c =
    let b = c.args.self.now in let s = c.args.seat.now in let rank = c.index_mut.result.now in
    let to = c.args.to in
    let fits = c.requires.seat.0.0 in
    let below = serves_below b.ranks.items b.token s to fits c.requires.served in
    let lies : (plain b.ranks.items to).mailbox ≡ Served s.number = fits.serves to c.requires.served in
    let read : rank ≡ plain b.ranks.items to = get_or_read b.ranks.items to rank below c.index_mut.ensures.value no_rank in
    let done = done_by
    (refuse_deed b.ranks.items b.token s (record s { serves = with_item s.serves to false }) rank to read c.requires.seat.0 c.requires.live.0 c.requires.served
    (refl, refl, refl, refl, refl, refl, refl, refl, refl))
    (noted_same b.ranks.items b.askers.masks.items c.requires.seat.1 to below _ (λ v. ap (λ (d : PlainMailbox). wants d v) (sym lies)))
    c.requires.seat.2 (keeps_put b.halter b.stops.items b.ranks.items to _
    (serves_on b.halter b.stops.items b.ranks.items s to c.requires.seat.2 (λ e. (let none : Served s.number ≡ Rest = sym lies ∙ e in cc))) (λ k e. cc))
    (refl, refl, refl, refl) in
    record { shown = refl; still = λ e. cc; told = done.told; reads = refl; mine = done.mine; others = done.others }
