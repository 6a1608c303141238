use Rattle.base_tests.proofs.Prelude.{◌≡◌, ◌<◌, ℕ, List, Some, slice_get, [], IsTrue, all_but, is_open}
use Rattle.base_tests.proofs.leasing.are_open.Given as goal

abbrev pub invariant-loop-path : goal.invariant-loop-path
invariant-loop-path l = (i : ℕ) (x : List ℕ) → i < l.path-index → slice_get l.paths i ≡ Some x → IsTrue (is_open (all_but l.out []) x)
