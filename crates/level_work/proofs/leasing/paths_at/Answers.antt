use Rattle.level_work.proofs.Prelude.{subst, sym, arith, ◌+◌, AreFirstPaths}
use Rattle.level_work.proofs.Lent.{no_path_yet, one_path_more, all_paths}
use Rattle.level_work.proofs.leasing.paths_at.Goals as goal

pub loop-j-init : goal.loop-j-init
loop-j-init c = subst (AreFirstPaths 0 c.args.items.now c.args.places.now) (sym c.in_ok-paths.ensures.items) (no_path_yet _ _)

pub loop-j-preserved : goal.loop-j-preserved
loop-j-preserved c = subst (AreFirstPaths (c.loop-j.j + 1) c.args.items.now c.args.places.now) (sym c.in_ok-push.ensures.items)
    (one_path_more _ _ _ _ _ c.loop-j.invariant c.in_ok-path_at.ensures)

pub returns : goal.returns
returns c = all_paths _ _ _ c.loop-j.j (omega (arith, c.loop-j-test.false, c.loop-j.auto)) c.loop-j.invariant
