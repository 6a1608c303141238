use Rattle.level_work.proofs.Prelude.{arith, slice_get_within, slice_get-get_or}
use Rattle.level_work.proofs.Deals.{same_seats, all_empty}
use Rattle.level_work.proofs.dealing.clear.Goals as goal

pub loop-i-preserved : goal.loop-i-preserved
loop-i-preserved g c =
    let at = slice_get-get_or c.loop-i.lots c.loop-i.i c.index-lots-i.result (omega (arith, c.loop-i-test.true, c.loop-i.auto)) in
    record {
      seats = same_seats _ _ _ _ c.empty.new.lot at c.empty.ensures.actor c.empty.ensures.part c.loop-i.invariant.seats;
      empty = all_empty _ _ c.empty.new.lot (slice_get_within _ _ _ at)
          (c.empty.ensures.places, c.empty.ensures.fates, c.empty.ensures.lost) c.loop-i.invariant.empty;
    }

pub returns-clause-empty : goal.returns-clause-empty
returns-clause-empty g c =
    λ i lot at. c.loop-i.invariant.empty i lot
    (omega (arith, slice_get_within c.loop-i.lots i lot at, c.loop-i-test.false, c.loop-i.auto)) at
