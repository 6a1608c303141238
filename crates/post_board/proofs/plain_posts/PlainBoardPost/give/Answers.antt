use Rattle.post_board.proofs.Prelude.{rules, ◌≡◌, ℕ, ◌<◌, ap, refl, sym, subst, false, set, length-set, ◌∙◌, get_or-set_other, get_or_read, with_item, no_rank}
use Rattle.post_board.proofs.Prelude.{plain, wants, PlainMailbox, Rest, Served, PlainRank}
use Rattle.post_board.proofs.PlainServing.{give_deed, serves_below, not_self}
use Rattle.post_board.proofs.AskerLemmas.{noted_same}
use Rattle.post_board.proofs.PlainHalts.{done_by, keeps_own, keeps_put, keeps_then, serves_on}
use Rattle.post_board.proofs.PlainDone.{own_read}
use Rattle.post_board.proofs.plain_posts.PlainBoardPost.give.Goals as goal

pub returns : goal.returns
returns c =
    let b = c.args.self.now in let s = c.args.seat.now in let rank = c.index_mut.result.now in
    let read = own_read b s c.requires.seat rank c.index_mut.ensures.value in
    let ranks = b.ranks.items in
    let masks = b.askers.masks.items in
    let fits = c.requires.seat.0.0 in
    let halts = c.requires.seat.2 in
    let to = c.args.to in
    let shaded = record rank { colour = c.shaded-seat.result } in
    let changed = set ranks s.number shaded in
    let asker = c.index_mut-2.result.now in
    let below = subst (λ (n : ℕ). to < n) (sym (length-set ranks s.number shaded)) (serves_below ranks b.token s to fits c.requires.served) in
    let asker_read : asker ≡ plain changed to = get_or_read changed to asker below c.index_mut-2.ensures.value no_rank in
    let lies : (plain ranks to).mailbox ≡ Served s.number = fits.serves to c.requires.served in
    let stays : rank.mailbox ≡ (plain ranks s.number).mailbox = ap (λ (y : PlainRank). y.mailbox) read in
    let done = done_by
    (give_deed ranks b.token s (record s {
      serves = with_item s.serves to false;
      colour = c.shaded-seat.result;
    }) c.shaded-seat.result rank asker to c.args.batch read c.shaded-seat.ensures asker_read
    c.requires.seat.0 c.requires.live.0 c.requires.served c.requires.busy (refl, refl, refl, refl, refl, refl, refl, refl, refl))
    (noted_same changed masks (noted_same ranks masks c.requires.seat.1 s.number fits.inside _ (λ v. ap (λ (d : PlainMailbox). wants d v) stays)) to below _
    (λ v. ap (λ (d : PlainMailbox). wants d v) (sym (ap (λ (y : PlainRank). y.mailbox)
    (get_or-set_other ranks s.number to shaded no_rank (not_self ranks b.token s to fits lies)) ∙ lies))))
    halts (keeps_then b.halter b.stops.items ranks changed _
    (keeps_own b.halter b.stops.items ranks s _ halts c.requires.live.1 stays)
    (keeps_put b.halter b.stops.items changed to _
    (serves_on b.halter b.stops.items ranks s to halts (λ e. (let rests : Served s.number ≡ Rest = sym lies ∙ e in cc)))
    (λ k e. cc))) (refl, refl, refl, refl) in
    record { shown = search rules; still = λ e. cc; told = done.told; reads = refl; mine = done.mine; others = done.others }
