use Rattle.test_tree.proofs.Prelude.{◌≡◌, ◌-◌, made, place_over}
use Rattle.test_tree.proofs.making.made.Given as goal

abbrev pub invariant-loop-k : goal.invariant-loop-k
invariant-loop-k l = (l.files ≡ made l.nodes l.k) × (l.place ≡ place_over (l.k - 1))
