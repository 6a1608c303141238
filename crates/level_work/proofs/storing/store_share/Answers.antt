use Rattle.level_work.proofs.Prelude.{ap, ◌∙◌, sym, arith, Some, slice_get-get_or}
use Rattle.level_work.proofs.Stores.{none_stored, stored_more}
use Rattle.level_work.proofs.storing.store_share.Goals as goal

pub loop-j-init : goal.loop-j-init
loop-j-init g c = none_stored _ _ _

pub loop-j-preserved : goal.loop-j-preserved
loop-j-preserved g c =
    let at = slice_get-get_or c.args.lot.now.places.items c.loop-j.j c.index-in-loop-j.result.now
    (omega (arith, c.loop-j-test.true, c.len-j-end.ensures)) ∙ ap Some (sym c.index-in-loop-j.ensures) in
    let is = slice_get-get_or c.args.lot.now.fates.items c.loop-j.j c.index.result.now
    (omega (arith, c.loop-j-test.true, c.len-j-end.ensures, c.requires.len)) ∙ ap Some (sym c.index.ensures) in
    stored_more c.loop-j.j c.index-in-loop-j.result.now c.index.result.now _ _ _ _ at is
    (omega (arith, c.requires.inside _ _ at, c.loop-j.invariant.len)) c.requires.once c.loop-j.invariant
