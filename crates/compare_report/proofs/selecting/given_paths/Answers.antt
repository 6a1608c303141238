use Rattle.compare_report.proofs.Chosen.{given_more}
use Rattle.compare_report.proofs.selecting.given_paths.Goals as goal

pub loop-k-preserved : goal.loop-k-preserved
loop-k-preserved c =
    given_more c.args.expr.now c.args.dest c.args.compared.now.rows c.loop-k.k c.row.result.now c.loop-k.given.items c.add_given.new.given.items
    c.row.ensures c.loop-k.invariant c.in_ok-add_given.ensures
