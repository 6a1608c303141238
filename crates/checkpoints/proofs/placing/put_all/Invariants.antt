use Rattle.checkpoints.proofs.Prelude.{◌≡◌, ◌++◌, length, take, enumerate_from, numbered}
use Rattle.checkpoints.proofs.placing.put_all.Given as goal

abbrev pub invariant-loop-path : goal.invariant-loop-path
invariant-loop-path l = numbered l.lefts.items ≡ numbered l.fn.lefts.items ++ enumerate_from (length l.fn.lefts.items) (take l.path-index l.list)
