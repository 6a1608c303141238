use Rattle.tree_remove.proofs.Prelude.{◌≡◌, length}
use Rattle.tree_remove.proofs.removals.removers.Given as goal

abbrev pub invariant-loop : goal.invariant-loop
invariant-loop l = length l.actors.items ≡ l.counter
