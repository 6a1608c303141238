use Rattle.files_mem.proofs.Prelude.{length}
use Rattle.files_mem.proofs.Copied.{Copying}
use Rattle.files_mem.proofs.stores.Store.copy_top.Given as goal

abbrev pub invariant-loop-key : goal.invariant-loop-key
invariant-loop-key l = Copying l.top l.self l.entries l.fn.into l.into

abbrev pub decreases-loop-key : goal.decreases-loop-key
decreases-loop-key l = length l.entries
