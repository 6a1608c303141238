use Rattle.level_work.proofs.Prelude.{◌∙◌, sym, subst, arith, refl, slice_get-get_or, ArePaths, Lot}
use Rattle.level_work.proofs.Working.{same_some}
use Rattle.level_work.proofs.Leases.{begin, share, can_be_leased, have_parents, leased_more, all_under, all_ready}
use Rattle.level_work.proofs.leasing.lease_all.Goals as goal

pub loop-i-init : goal.loop-i-init
loop-i-init g c = record {
  leasing = begin g.G.Part.Plot.tree g.G.Part.Plot.area g.G.Part.Plot.count c.args.items.now c.args.lots.now _ _ c.requires.home c.requires.area;
  count = refl;
}

pub paths_of-requires : goal.paths_of-requires
paths_of-requires g c = (share g.G.Part.Plot.tree g.G.Part.Plot.area g.G.Part.Plot.count c.args.order c.args.level c.args.items.now
    c.args.fates.now c.args.lots.now c.loop-i.lots c.loop-i.i _ _ _ c.requires.items c.requires.home c.requires.shares
    c.loop-i.invariant.leasing
    c.loop-i.i _ (slice_get-get_or c.loop-i.lots c.loop-i.i c.index-lots-i.result (omega (arith, c.loop-i-test.true, c.loop-i.auto)))).inside

pub lease-requires-clause-tops : goal.lease-requires-clause-tops
lease-requires-clause-tops g c =
    can_be_leased g.G.Part.Plot.tree g.G.Part.Plot.area g.G.Part.Plot.count c.args.order c.args.level c.args.items.now c.args.fates.now
    c.args.lots.now c.loop-i.lots c.loop-i.i _ _ _ c.requires.items c.requires.home c.requires.shares c.loop-i.invariant.leasing
    _ (slice_get-get_or c.loop-i.lots c.loop-i.i c.index-lots-i.result (omega (arith, c.loop-i-test.true, c.loop-i.auto)))
    c.deref.result.now (subst (ArePaths c.args.items.now _) (sym c.deref.ensures.value) c.in_ok-tops.ensures)

pub lease-requires-clause-parents : goal.lease-requires-clause-parents
lease-requires-clause-parents g c =
    have_parents g.G.Part.Plot.tree g.G.Part.Plot.area g.G.Part.Plot.count c.args.order c.args.level c.args.items.now c.args.fates.now
    c.args.lots.now c.loop-i.lots c.loop-i.i _ _ _ c.requires.items c.requires.home c.requires.shares c.loop-i.invariant.leasing
    _ (slice_get-get_or c.loop-i.lots c.loop-i.i c.index-lots-i.result (omega (arith, c.loop-i-test.true, c.loop-i.auto)))
    c.deref.result.now (subst (ArePaths c.args.items.now _) (sym c.deref.ensures.value) c.in_ok-tops.ensures) c.requires.parents

pub returns-in_err-tops-clause-under : goal.returns-in_err-tops-clause-under
returns-in_err-tops-clause-under g c =
    all_under g.G.Part.Plot.tree g.G.Part.Plot.area g.G.Part.Plot.count c.args.order c.args.level c.args.items.now c.args.fates.now
    c.args.lots.now c.loop-i.lots c.loop-i.i _ _ _ c.requires.items c.requires.home c.requires.shares c.loop-i.invariant.leasing

pub returns-in_err-part-clause-under : goal.returns-in_err-part-clause-under
returns-in_err-part-clause-under g c =
    all_under g.G.Part.Plot.tree g.G.Part.Plot.area g.G.Part.Plot.count c.args.order c.args.level c.args.items.now c.args.fates.now
    c.args.lots.now c.loop-i.lots c.loop-i.i _ _ _ c.requires.items c.requires.home c.requires.shares c.loop-i.invariant.leasing

pub loop-i-preserved : goal.loop-i-preserved
loop-i-preserved g c =
    let here = slice_get-get_or c.loop-i.lots c.loop-i.i c.index-lots-i.result (omega (arith, c.loop-i-test.true, c.loop-i.auto)) in
    let at = slice_get-get_or c.loop-i.lots c.loop-i.i c.index-lots-i-in-loop-i.result (omega (arith, c.loop-i-test.true, c.loop-i.auto)) in
    let paths = subst (λ (l : Lot _ _). ArePaths c.args.items.now l.places.items c.in_ok-tops.tops.items)
    (same_some _ _ (sym here ∙ at)) c.in_ok-tops.ensures in
    record {
      leasing = leased_more g.G.Part.Plot.tree g.G.Part.Plot.area g.G.Part.Plot.count c.args.order c.args.level c.args.items.now
          c.args.fates.now c.args.lots.now c.loop-i.lots c.loop-i.i _ _ _ c.requires.items c.requires.home c.requires.shares
          c.loop-i.invariant.leasing
          _ at c.deref.result.now (subst (ArePaths c.args.items.now _) (sym c.deref.ensures.value) paths)
          c.in_ok-part.part c.hand.new.lot _ _ c.hand.ensures c.in_ok-part.ensures.part c.in_ok-part.ensures.zero c.in_ok-part.ensures.tops
          c.in_ok-part.ensures.rest c.in_ok-part.ensures.area;
      count = c.lease.ensures.count ∙ c.loop-i.invariant.count;
    }

pub returns-clause-under : goal.returns-clause-under
returns-clause-under g c =
    all_under g.G.Part.Plot.tree g.G.Part.Plot.area g.G.Part.Plot.count c.args.order c.args.level c.args.items.now c.args.fates.now
    c.args.lots.now c.loop-i.lots c.loop-i.i _ _ _ c.requires.items c.requires.home c.requires.shares c.loop-i.invariant.leasing

pub returns-clause-ready : goal.returns-clause-ready
returns-clause-ready g c =
    all_ready g.G.Part.Plot.tree g.G.Part.Plot.area g.G.Part.Plot.count c.args.order c.args.level c.args.items.now c.args.fates.now
    c.args.lots.now c.loop-i.lots c.loop-i.i _ _ _ c.requires.items c.requires.home c.requires.shares c.loop-i.invariant.leasing
    (omega (arith, c.loop-i-test.false, c.loop-i.auto, c.loop-i.invariant.leasing.len)) c.requires.fresh
