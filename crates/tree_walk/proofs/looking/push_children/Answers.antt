use Rattle.tree_walk.proofs.Prelude.{ap}
use Rattle.std.proofs.Common.{Err}
use Rattle.tree_walk.proofs.Pushed.{pushed_more, not_long}
use Rattle.tree_walk.proofs.looking.push_children.Goals as goal

pub loop-at-preserved : goal.loop-at-preserved
loop-at-preserved c = record {
  ends = c.loop-at.invariant.ends;
  pushed = pushed_more c.args.path.now c.args.listing.now.0 c.loop-at.at c.args.fresh.now c.loop-at.fresh _ c.in-Ok.child _
      c.name.ensures c.in-Ok.ensures.ok c.in_ok-push-in-Ok.ensures.ok c.loop-at.invariant.pushed;
}

pub unreachable-requires : goal.unreachable-requires
unreachable-requires c =
    not_long c.args.path.now c.args.listing.now.0 _ _ c.requires.short c.name.ensures (c.in-Err-TooLong.ensures.too_long (ap Err c.in-Err-TooLong.field-0-is))
