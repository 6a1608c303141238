use Rattle.post_board.proofs.Prelude.{◌≡◌, ℕ, ◌∙◌, ap, refl, true, false, sym, subst, set, get_or, get_or_read, with_item, no_rank, plain, worded, Noted, Rest}
use Rattle.post_board.proofs.Prelude.{Wants, Served}
use Rattle.post_board.proofs.PlainServing.{take_up_deed, wants_is}
use Rattle.post_board.proofs.AskerLemmas.{noted_taken}
use Rattle.post_board.proofs.PlainHalts.{Keeps, keeps_put, serves_on}
use Rattle.post_board.proofs.plain_boards.PlainBoard.take_up.Goals as goal

served_same : (j k : ℕ) → Served j ≡ Served k → j ≡ k
served_same j k e = cc

pub returns : goal.returns
returns c =
    let ranks = c.args.self.now.ranks.items in
    let seat = c.args.seat.now in
    let r = c.args.r in
    let rank = c.index_mut.result.now in
    let read : rank ≡ plain ranks r = get_or_read ranks r rank c.requires.asks.0 c.index_mut.ensures.value no_rank in
    let fits = c.requires.seat.0.0 in
    let masks = c.args.self.now.askers.masks.items in
    let done = take_up_deed ranks c.args.self.now.token seat
    (record seat { serves = with_item seat.serves r true }) rank r read c.requires.asks.2 c.requires.asks.1 c.requires.asks.0
    c.requires.seat.0 (refl, refl, refl, refl, refl, refl, refl, refl, refl) in
    let noted : Noted (set ranks r (record rank { mailbox = Served seat.number })) c.take_away.new.self.masks.items =
    subst (Noted _) (sym c.take_away.ensures)
    (noted_taken ranks masks c.requires.seat.1 r c.requires.asks.0 (record rank { mailbox = Served seat.number }) seat.number fits.inside
    (wants_is (plain ranks r).mailbox seat.number c.requires.asks.2) (λ w. refl)) in
    let halts = c.requires.seat.2 in
    let halter = c.args.self.now.halter in
    let stops = c.args.self.now.stops.items in
    let live : get_or stops seat.number false ≡ false = halts.own ∙ c.requires.live in
    let asks : get_or stops r false ≡ false = serves_on halter stops ranks seat r halts
    (λ e. (let lies : Wants seat.number ≡ Rest = sym (wants_is (plain ranks r).mailbox seat.number c.requires.asks.2) ∙ e in cc)) in
    let keeps : Keeps halter stops ranks (set ranks r (record rank { mailbox = Served seat.number })) = keeps_put halter stops ranks r _ asks
    (λ k e. ap (λ (j : ℕ). get_or stops j false) (sym (served_same seat.number k e)) ∙ live) in
    record {
      shown = refl;
      told = ap (worded halter stops) done.0;
      mine = (done.1, noted, keeps seat (record seat { serves = with_item seat.serves r true }) halts (refl, refl, refl, refl));
      others = λ o ne b. (done.2 o ne b.0, noted, keeps o o b.2 (refl, refl, refl, refl));
    }
