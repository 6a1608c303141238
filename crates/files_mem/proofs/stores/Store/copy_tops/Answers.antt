use Rattle.files_mem.proofs.Laying.{first_none, first_more, first_all, first_off, lost}
use Rattle.files_mem.proofs.stores.Store.copy_tops.Goals as goal

pub loop-top-init : goal.loop-top-init
loop-top-init c = first_none c.args.tops.now c.args.self.now c.args.into.now

pub returns-in_err-copy_top-clause-err : goal.returns-in_err-copy_top-clause-err
returns-in_err-copy_top-clause-err c =
    lost c.from_residual.result _
    (first_off c.args.tops.now c.loop-top.top-index c.top-item.result c.args.self.now c.args.into.now c.loop-top.into c.copy_top.new.into
    c.loop-top-test.true c.top-item.is c.loop-top.invariant c.in_err-copy_top.ensures.err)

pub loop-top-preserved : goal.loop-top-preserved
loop-top-preserved c = first_more c.args.tops.now c.loop-top.top-index c.top-item.result c.args.self.now c.args.into.now c.loop-top.into
    c.copy_top.new.into c.loop-top-test.true c.top-item.is c.loop-top.invariant c.in_ok-copy_top.ensures.ok

pub returns-clause-ok : goal.returns-clause-ok
returns-clause-ok c = first_all c.args.tops.now c.loop-top.top-index c.args.self.now c.args.into.now c.loop-top.into c.loop-top-test.false c.loop-top.invariant
