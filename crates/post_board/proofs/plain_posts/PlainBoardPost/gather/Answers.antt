use Rattle.post_board.proofs.Prelude.{arith, ◌<◌, ap, refl, ◌∙◌, length, get_or_read, no_rank, PlainRank}
use Rattle.post_board.proofs.PlainHalts.{some_rank, over_is, none_left_over, halters_of}
use Rattle.post_board.proofs.plain_posts.PlainBoardPost.gather.Goals as goal

pub index-requires : goal.index-requires
index-requires c =
    let some : 0 < length c.args.self.now.ranks.items = some_rank c.args.self.now c.args.all.items c.requires.all c.requires.some in
    let ok = c.args.self.now.ranks.ok in omega arith

pub returns-clause-over : goal.returns-clause-over
returns-clause-over c = λ s has lowest.
    ap (λ (x : PlainRank). x.ended) (get_or_read c.args.self.now.ranks.items 0 c.index.result.now
    (some_rank c.args.self.now c.args.all.items c.requires.all c.requires.some) c.index.ensures no_rank)
    ∙ over_is c.args.self.now c.args.all.items c.requires.all s has lowest

pub returns-clause-told : goal.returns-clause-told
returns-clause-told c = (none_left_over c.args.self.now c.args.all.items c.requires.all c.requires.some, refl)

pub returns-clause-halters : goal.returns-clause-halters
returns-clause-halters c = halters_of c.args.self.now c.args.all.items c.requires.all
