use Rattle.post_board.proofs.Prelude.{◌≡◌, refl, sym, subst, get_or_read, no_rank, plain, Noted}
use Rattle.post_board.proofs.PlainWithdraw.{withdrawn}
use Rattle.post_board.proofs.plain_boards.PlainBoard.withdraw.Goals as goal

pub returns : goal.returns
returns c =
    let board = c.args.self.now in
    let ranks = board.ranks.items in
    let seat = c.args.seat.now in
    let rank = c.index_mut-rank.result.now in
    let read : rank ≡ plain ranks seat.number = get_or_read ranks seat.number rank c.requires.seat.0.0.inside c.index_mut-rank.ensures.value no_rank in
    let done = withdrawn board.halter board.stops.items ranks board.askers.masks.items board.token seat rank c.args.victim read c.requires.asks
    c.requires.left c.requires.asked c.requires.seat c.requires.live in
    let masks : Noted _ _ → Noted _ c.take_away.new.self.masks.items = subst (Noted _) (sym c.take_away.ensures) in
    record {
      shown = refl;
      told = done.told;
      mine = (done.mine.0, masks done.mine.1, done.mine.2);
      others = λ o ne b. (let x = done.others o ne b in (x.0, masks x.1, x.2));
    }
