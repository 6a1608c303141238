use Rattle.level_work.proofs.Prelude.{slice_get-get_or}
use Rattle.level_work.proofs.Deals.{left_out_by, not_left_out}
use Rattle.level_work.proofs.Hands.{if_ok}
use Rattle.level_work.proofs.dealing.is_left_out.Goals as goal

pub returns-in-TopDown-clause-out : goal.returns-in-TopDown-clause-out
returns-in-TopDown-clause-out c =
    if_ok _ _ c.has_parent_of.result
    (λ has h on. left_out_by c.args.order c.args.items.now c.args.fates.now c.args.failed.now.set.keys c.args.k _ c.in-TopDown.is
    (slice_get-get_or c.args.items.now c.args.k c.index-items-k.result c.requires.inside) c.requires.knows has h on) c.has_parent_of.ensures

pub returns-in-TopDown-clause-dealt : goal.returns-in-TopDown-clause-dealt
returns-in-TopDown-clause-dealt c =
    if_ok _ _ c.has_parent_of.result
    (λ has h off. not_left_out c.args.order c.args.items.now c.args.fates.now c.args.failed.now.set.keys c.args.k _ c.in-TopDown.is
    (slice_get-get_or c.args.items.now c.args.k c.index-items-k.result c.requires.inside) c.requires.knows has h off) c.has_parent_of.ensures
