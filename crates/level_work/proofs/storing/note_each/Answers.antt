use Rattle.level_work.proofs.Prelude.{◌+◌, ap, ◌∙◌, sym, subst, arith, slice_get-get_or, IsNoted}
use Rattle.level_work.proofs.Stores.{done_is, none_noted, noted_skip, noted_more, undone}
use Rattle.level_work.proofs.storing.note_each.Goals as goal
use Rattle.level_work.proofs.storing.note_each.Goals.{then-not-is_done+in_ok-add, else-not-is_done}

pub loop-t-init : goal.loop-t-init
loop-t-init c = none_noted _ _ _ _

pub loop-t-preserved : goal.loop-t-preserved
loop-t-preserved c =
    let at = slice_get-get_or c.args.places.now c.loop-t.t 0 c.loop-t-test.true in
    let inside = c.requires.inside _ _ at in
    elim c.if-not-is_done.branch [
      | then-not-is_done+in_ok-add w ↦
          subst (λ (ps : _). IsNoted (c.loop-t.t + 1) c.args.items.now c.args.fates.now c.args.places.now c.args.failed.now.set.keys ps)
          (ap (λ p. p.set.keys) (sym w.failed-is))
          (noted_more _ _ _ _ _ _ _ _ _ _ at (slice_get-get_or c.args.items.now _ w.index-items-k.result inside)
          (slice_get-get_or c.args.fates.now _ _ (omega (arith, inside, c.requires.len)))
          (undone _ (sym c.is_done.ensures ∙ w.if-not-is_done.true)) w.in_ok-add.ensures c.loop-t.invariant)
      | else-not-is_done w ↦ subst
          (λ (ps : _). IsNoted (c.loop-t.t + 1) c.args.items.now c.args.fates.now c.args.places.now c.args.failed.now.set.keys ps)
          (ap (λ p. p.set.keys) (sym w.failed-is))
          (noted_skip _ _ _ _ _ _ _ _ at (slice_get-get_or c.args.fates.now _ _ (omega (arith, inside, c.requires.len)))
          (done_is _ (sym c.is_done.ensures ∙ w.if-not-is_done.false)) c.loop-t.invariant)
    ]
