use Rattle.files_mem.proofs.Laying.{lay_ok, lay_err}
use Rattle.files_mem.proofs.stores.Store.lay.Goals as goal

pub returns-clause-ok : goal.returns-clause-ok
returns-clause-ok c = lay_ok c.copy_tops.result c.args.tops.now c.args.part.now c.args.self.now _ c.take_all.new.self c.copy_tops.new.into
    c.in_ok-old.ensures c.take_all.ensures c.copy_tops.ensures.ok

pub returns-clause-err : goal.returns-clause-err
returns-clause-err c = lay_err c.copy_tops.result c.args.tops.now c.args.part.now c.args.self.now _ c.take_all.new.self c.copy_tops.new.into
    c.in_ok-old.ensures c.take_all.ensures c.copy_tops.ensures.err
