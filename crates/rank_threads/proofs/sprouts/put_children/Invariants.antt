use Rattle.rank_threads.proofs.Prelude.{◌≡◌}
use Rattle.rank_threads.proofs.sprouts.put_children.Given as goal

abbrev pub invariant-loop-side : goal.invariant-loop-side
invariant-loop-side l = record { pushed : l.fresh ≡ l.pushed.items }
