use Rattle.files_mem.proofs.Laying.{divided}
use Rattle.files_mem.proofs.stores.Store.divide.Goals as goal

pub returns-clause-rest : goal.returns-clause-rest
returns-clause-rest c = divided c.args.tops.now c.args.self.now _ c.take_all.new.self c.in_ok-part.ensures c.take_all.ensures
