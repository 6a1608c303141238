use Rattle.base_tests.proofs.Prelude.{◌≡◌, ◌<◌, ℕ, List, Some, slice_get, level_of}
use Rattle.base_tests.proofs.leasing.have_level.Given as goal

abbrev pub invariant-loop-path : goal.invariant-loop-path
invariant-loop-path l = (i : ℕ) (x : List ℕ) → i < l.path-index → slice_get l.paths i ≡ Some x → level_of x ≡ l.level
