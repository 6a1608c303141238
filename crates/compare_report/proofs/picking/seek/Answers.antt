use Rattle.compare_report.proofs.Prelude.{sym, ◌∙◌}
use Rattle.compare_report.proofs.Passed.{at_end, at_same, at_later, one_passed}
use Rattle.compare_report.proofs.picking.seek.Goals as goal

pub returns-in-Equal-clause-found : goal.returns-in-Equal-clause-found
returns-in-Equal-clause-found c =
    sym (at_same c.args.all.now c.loop-at.at c.args.sought.now c.index-all-at.result c.loop-at.invariant c.loop-at-test.true c.index-all-at.is
    (sym c.cmp.ensures ∙ c.in-Equal.is))

pub returns-in-Greater-clause-found : goal.returns-in-Greater-clause-found
returns-in-Greater-clause-found c =
    sym (at_later c.args.all.now c.loop-at.at c.args.sought.now c.index-all-at.result c.requires.ascend c.loop-at.invariant c.loop-at-test.true
    c.index-all-at.is (sym c.cmp.ensures ∙ c.in-Greater.is))

pub loop-at-preserved : goal.loop-at-preserved
loop-at-preserved c =
    one_passed c.args.all.now c.loop-at.at c.args.sought.now c.index-all-at.result c.loop-at.invariant c.loop-at-test.true c.index-all-at.is
    (sym c.cmp.ensures ∙ c.in-Less.is)

pub returns-clause-found : goal.returns-clause-found
returns-clause-found c = sym (at_end c.args.all.now c.loop-at.at c.args.sought.now c.loop-at.invariant c.loop-at-test.false)
