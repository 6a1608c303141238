use Rattle.level_work.proofs.Prelude.{arith, slice_get-get_or}
use Rattle.level_work.proofs.Stores.{none_left_out, left_out_more}
use Rattle.level_work.proofs.storing.leave_out.Goals as goal

pub loop-j-init : goal.loop-j-init
loop-j-init c = none_left_out _ _

pub loop-j-preserved : goal.loop-j-preserved
loop-j-preserved c =
    let at = slice_get-get_or c.args.places.now c.loop-j.j 0 c.loop-j-test.true in
    left_out_more _ _ _ _ _ at (omega (arith, c.requires.inside _ _ at, c.loop-j.invariant.len)) c.loop-j.invariant
