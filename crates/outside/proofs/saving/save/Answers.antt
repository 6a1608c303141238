use Rattle.outside.proofs.Saved.{saved, can_long, never_root, no_parent, has_parent}
use Rattle.outside.proofs.Told.{saved_so}
use Rattle.outside.proofs.saving.save.Goals as goal

pub returns-in_default-clause-told : goal.returns-in_default-clause-told
returns-in_default-clause-told g c = never_root _ _ c.args.bytes.now c.text.ensures.valid (no_parent _ _ _ c.in_ok-parent.ensures c.in_default.is)

pub returns-clause-told : goal.returns-clause-told
returns-clause-told g c =
    let over = has_parent _ _ _ _ c.in_ok-parent.ensures c.in-Some.is in
    let clear = c.in_ok-clear.ensures in
    let made = c.in_ok-make_empty.ensures in
    let write = c.write_all.ensures in
    let old = c.in_ok-old.ensures in
    saved _ _ _ _ _ _ _ _ _ old.same clear.kept.tells made.kept.tells write.kept.tells (can_long _ _ _ _ over.0 over.1 old.told)
    clear.told made.told write.told write.kept.no_place write.kept.rest

pub returns-clause-ended : goal.returns-clause-ended
returns-clause-ended g c =
    let over = has_parent _ _ _ _ c.in_ok-parent.ensures c.in-Some.is in
    let cleared = c.in_ok-clear.ensures in
    let made = c.in_ok-make_empty.ensures in
    saved_so _ _ _ _ _ _ _ _ _ _ _ over.1 c.in_ok-old.ensures.found cleared.done made.done c.write_all.ensures.done
