use Rattle.rank_tests.proofs.Prelude.{◌≡◌}
use Rattle.rank_tests.proofs.of_circle_run.put_children.Given as goal

abbrev pub invariant-loop-parent : goal.invariant-loop-parent
invariant-loop-parent l = record { pushed : l.fresh ≡ l.pushed.items }
