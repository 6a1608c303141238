use Rattle.level_work.proofs.Prelude.{refl, slice_get-get_or, dealt_to}
use Rattle.level_work.proofs.Crewed.{on_ok}
use Rattle.level_work.proofs.Deals.{same_seats, seats_here}
use Rattle.level_work.proofs.dealing.deal_one.Goals as goal

pub returns-clause-seats : goal.returns-clause-seats
returns-clause-seats g c =
    same_seats _ _ _ _ c.take.new.lot
    (slice_get-get_or c.args.lots.now c.args.i c.index-lots-i.result c.requires.lot) c.take.ensures.actor c.take.ensures.part (seats_here _)

pub returns-clause-dealt : goal.returns-clause-dealt
returns-clause-dealt g c =
    on_ok c.take.result _ _ (λ more.
    dealt_to _ c.take.new.lot (slice_get-get_or c.args.lots.now c.args.i c.index-lots-i.result c.requires.lot)
    (c.in_ok-is_left_out.ensures.dealt c.if-branch.false) more c.take.ensures.fates c.take.ensures.lost refl) c.take.ensures.places
