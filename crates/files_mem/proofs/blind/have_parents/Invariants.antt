use Rattle.files_mem.proofs.Prelude.{◌≡◌, ◌<◌, ℕ, true, List, Some, slice_get, get, parent_of, is_dir}
use Rattle.files_mem.proofs.blind.have_parents.Given as goal

abbrev pub invariant-loop-top : goal.invariant-loop-top
invariant-loop-top l = record {
  same : l.ground ≡ l.fn.ground;
  first : (i : ℕ) (x : List ℕ) → i < l.top-index → slice_get l.tops i ≡ Some x → is_dir (get l.fn.ground.files (parent_of x)) ≡ true;
}
