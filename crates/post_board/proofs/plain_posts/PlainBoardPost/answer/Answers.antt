use Rattle.post_board.proofs.Prelude.{refl, sym, ap, ◌∙◌, inl, wants, PlainMailbox}
use Rattle.post_board.proofs.PlainDeeds.{take_left, none_left}
use Rattle.post_board.proofs.PlainDone.{own_read, done_rest}
use Rattle.post_board.proofs.plain_posts.PlainBoardPost.answer.Goals as goal

pub returns-in-Holds : goal.returns-in-Holds
returns-in-Holds c =
    let b = c.args.self.now in let s = c.args.seat.now in let rank = c.index_mut-rank.result.now in
    let read = own_read b s c.requires.seat rank c.index_mut-rank.ensures.value in
    let lies = sym c.replace.ensures.value ∙ c.in-Holds.is in
    let done = done_rest b s c.requires.seat _
    (take_left b.ranks.items b.token s rank c.in-Holds.field-0 c.in-Holds.batch c.replace.new.dest c.replace.ensures.after read lies
    c.requires.seat.0 c.requires.live.0)
    read (λ v. ap (λ (m : PlainMailbox). wants m v) lies) c.replace.ensures.after (refl, refl, refl, refl) c.requires.live.1 in
    record { shown = refl; still = λ e. cc; told = done.told; reads = refl; mine = done.mine; others = done.others }

pub returns-in-Refused : goal.returns-in-Refused
returns-in-Refused c =
    let b = c.args.self.now in let s = c.args.seat.now in let rank = c.index_mut-rank.result.now in
    let read = own_read b s c.requires.seat rank c.index_mut-rank.ensures.value in
    let lies = sym c.replace.ensures.value ∙ c.in-Refused.is in
    let done = done_rest b s c.requires.seat _
    (none_left b.ranks.items b.token s rank c.in-Refused.field-0 c.replace.new.dest c.replace.ensures.after read lies c.requires.seat.0 c.requires.live.0)
    read (λ v. ap (λ (m : PlainMailbox). wants m v) lies) c.replace.ensures.after (refl, refl, refl, refl) c.requires.live.1 in
    record { shown = refl; still = λ e. cc; told = inl done.told; reads = refl; mine = done.mine; others = done.others }
