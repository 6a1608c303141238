use Rattle.base_tests.proofs.Prelude.{◌≡◌, ◌<◌, ℕ, true, List, Some, slice_get, get, parent_of, is_dir}
use Rattle.base_tests.proofs.leasing.all_have_parents.Given as goal

abbrev pub invariant-loop-path : goal.invariant-loop-path
invariant-loop-path l = record {
  same : l.reader.files ≡ l.fn.reader.files;
  first : (i : ℕ) (x : List ℕ) → i < l.path-index → slice_get l.paths i ≡ Some x → is_dir (get l.fn.reader.files (parent_of x)) ≡ true;
}
