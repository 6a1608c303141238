use Rattle.level_work.proofs.Prelude.{ap, ◌∙◌, sym, arith, Some, slice_get-get_or}
use Rattle.level_work.proofs.Stores.{no_share_stored, share_stored}
use Rattle.level_work.proofs.storing.store_shares.Goals as goal

pub loop-i-init : goal.loop-i-init
loop-i-init g c = no_share_stored _ _

pub store_share-requires-clause-inside : goal.store_share-requires-clause-inside
store_share-requires-clause-inside g c = λ j k e.
    let at = slice_get-get_or c.args.lots.now c.loop-i.i c.index-lots-i.result c.loop-i-test.true ∙ ap Some (sym c.index-lots-i.is) in
    omega (arith, c.requires.inside c.loop-i.i j k (record { lot = c.index-lots-i.result; is_lot = at; at = e }), c.loop-i.invariant.len)

pub store_share-requires-clause-once : goal.store_share-requires-clause-once
store_share-requires-clause-once g c = λ i j k a b.
    let at = slice_get-get_or c.args.lots.now c.loop-i.i c.index-lots-i.result c.loop-i-test.true ∙ ap Some (sym c.index-lots-i.is) in
    (c.requires.once c.loop-i.i i c.loop-i.i j k (record { lot = c.index-lots-i.result; is_lot = at; at = a })
    (record { lot = c.index-lots-i.result; is_lot = at; at = b })).1

pub loop-i-preserved : goal.loop-i-preserved
loop-i-preserved g c =
    let at = slice_get-get_or c.args.lots.now c.loop-i.i c.index-lots-i.result c.loop-i-test.true ∙ ap Some (sym c.index-lots-i.is) in
    share_stored _ _ c.index-lots-i.result _ _ _ at (c.requires.all _ _ at) c.requires.once c.loop-i.invariant c.store_share.ensures
