use Rattle.tree_copy.proofs.Prelude.{◌≡◌, ◌≤◌, ◌||◌, true, length, subst, arith, ◌==◌, All, nat_tests, take_all, target_in}
use Rattle.tree_copy.proofs.Due.{pairs_more, short_more, have_targets}
use Rattle.tree_copy.proofs.placing.paired.Goals.{else-not-in_dir-via-then-not-in_dir+else-sources-ne1, else-not-in_dir-via-else-not-in_dir}
use Rattle.tree_copy.proofs.placing.paired.Goals as goal

pub loop-source-preserved : goal.loop-source-preserved
loop-source-preserved c =
    let k = c.loop-source.source-index in
    let given = c.source-item.result in
    record {
      made = pairs_more c.args.in_dir c.args.dest.now c.args.sources.now k given _ _ _ _
          c.loop-source-test.true c.source-item.is c.in_ok-source.ensures c.in-Ok.ensures.target c.loop-source.invariant.made c.in_ok-push.ensures.items;
      short = short_more c.args.in_dir c.args.dest.now c.args.sources.now k given
          c.loop-source-test.true c.source-item.is c.in-Ok.ensures.short c.loop-source.invariant.short;
    }

pub returns-clause-whether : goal.returns-clause-whether
returns-clause-whether c =
    let whole = take_all c.loop-source.source-index c.args.sources.now c.loop-source-test.false in
    let enough : (c.args.in_dir || length c.args.sources.now == 1) ≡ true = elim c.else-not-in_dir.branch [
      | else-not-in_dir-via-then-not-in_dir+else-sources-ne1 w ↦ grind (arith, nat_tests, w.if-sources-ne1.false)
      | else-not-in_dir-via-else-not-in_dir w ↦ grind (arith, nat_tests, w.if-not-in_dir.false)
    ] in
    have_targets c.args.in_dir c.args.dest.now c.args.sources.now enough
    (subst (All (λ source. length (target_in c.args.in_dir c.args.dest.now source) ≤ 4095)) whole c.loop-source.invariant.short)
