use Rattle.level_work.proofs.Prelude.{ap, ◌≡◌, Some, sym, subst, arith, slice_get, is_top, is_open, IsAt}
use Rattle.std.proofs.Common.{IsTrue}
use Rattle.level_work.proofs.Coming.{none_came, one_more_came, none_more_came}
use Rattle.level_work.proofs.Working.{begun, stepped, finished, lost_at}
use Rattle.level_work.proofs.lots.Lot.work.Goals as goal

pub loop-j-init : goal.loop-j-init
loop-j-init g c = record { upto = begun _ _ _ _ _ _ _ _ c.requires; came = none_came _ _ _ _ c.requires.fresh }

pub act_on-requires-clause-inside : goal.act_on-requires-clause-inside
act_on-requires-clause-inside g c =
    λ k e. c.requires.inside c.loop-j.j k (subst (λ v. slice_get v.items c.loop-j.j ≡ Some k) c.loop-j.invariant.upto.keeps.places e)

pub act_on-requires-clause-top : goal.act_on-requires-clause-top
act_on-requires-clause-top g c =
    λ x at. subst (λ a. IsTrue (is_top a x.path)) (sym c.loop-j.invariant.upto.keeps.same_area)
    (c.requires.tops c.loop-j.j x (subst (λ v. IsAt c.args.items.now v.items c.loop-j.j x) c.loop-j.invariant.upto.keeps.places at))

pub act_on-requires-clause-open : goal.act_on-requires-clause-open
act_on-requires-clause-open g c =
    λ x at. subst (λ a. IsTrue (is_open a x.path)) (sym c.loop-j.invariant.upto.keeps.same_area)
    (c.requires.are_open c.loop-j.j x (subst (λ v. IsAt c.args.items.now v.items c.loop-j.j x) c.loop-j.invariant.upto.keeps.places at))

pub returns-in-Err : goal.returns-in-Err
returns-in-Err g c = record {
  worked = lost_at _ _ _ _ _ _ _ _ _ _ c.act_on.new.self c.requires
      (omega (arith, c.loop-j-test.true, c.len-j-end.ensures)) c.loop-j.invariant.upto c.in-Err.ensures.err;
  came = none_more_came _ _ _ _ _ c.act_on.new.self c.in-Err.ensures.err.fates c.act_on.ensures.who c.loop-j.invariant.came;
}

pub loop-j-preserved : goal.loop-j-preserved
loop-j-preserved g c = record {
  upto = stepped _ _ _ _ _ _ _ _ _ _ _ c.requires (omega (arith, c.loop-j-test.true, c.len-j-end.ensures)) c.loop-j.invariant.upto c.in-Ok.ensures.ok;
  came = one_more_came _ _ _ _ _ _ _ (ap (λ v. v.items) c.loop-j.invariant.upto.keeps.places) c.loop-j.invariant.upto.so_many
      c.act_on.ensures.who c.loop-j.invariant.came c.in-Ok.ensures.came;
}

pub returns : goal.returns
returns g c = record {
  worked = finished _ _ _ _ _ _ _ _ _ _ (omega (arith, c.loop-j-test.false, c.loop-j.auto, c.len-j-end.ensures)) c.loop-j.invariant.upto;
  came = c.loop-j.invariant.came;
}
