use Rattle.flat_list.proofs.Prelude.{◌≡◌, ◌++◌, length}
use Rattle.flat_list.proofs.sources.Source.give_all.Given as goal

abbrev pub invariant-loop-self : goal.invariant-loop-self
invariant-loop-self l = l.all ++ l.self ≡ l.fn.all ++ l.fn.self

abbrev pub decreases-loop-self : goal.decreases-loop-self
decreases-loop-self l = length l.self
