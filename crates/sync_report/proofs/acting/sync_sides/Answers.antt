use Rattle.sync_report.proofs.Prelude.{IfSome, subst, IsTreeIn}
use Rattle.sync_report.proofs.Equal.{Laws, makes_equal}
use Rattle.sync_report.proofs.acting.sync_sides.Goals as goal

pub returns-in-Ok-clause-equal : goal.returns-in-Ok-clause-equal
returns-in-Ok-clause-equal g c =
    let tree = g.G.Plot.tree in
    let laws : Laws = record {
      agree = c.synced_rows_agree.ensures;
      ascends = c.walk_ascends.ensures;
      tells = c.entries_are_told.ensures;
      lists = c.walk_lists_all.ensures;
    } in
    let told = c.in-Ok.ensures in
    makes_equal laws c.args.pair.now c.args.sides.now.left c.args.sides.now.right c.args.delete c.in-Ok.report (tree c.args.files.now)
    (tree c.sync-synced.new.ground) c.requires.ready told.synced
    (subst (λ a. IfSome (tree c.sync-synced.new.ground) (IsTreeIn a)) c.sync-synced.ensures.lent c.faults-faults.ensures.valid)
