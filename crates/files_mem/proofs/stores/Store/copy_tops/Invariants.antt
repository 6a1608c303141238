use Rattle.files_mem.proofs.Laying.{CopiedFirst}
use Rattle.files_mem.proofs.stores.Store.copy_tops.Given as goal

abbrev pub invariant-loop-top : goal.invariant-loop-top
invariant-loop-top l = CopiedFirst l.tops l.top-index l.self l.fn.into l.into
