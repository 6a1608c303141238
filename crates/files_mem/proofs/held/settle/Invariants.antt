use Rattle.files_mem.proofs.Prelude.{◌≡◌, ◌≤◌, arc_value, vec_len, vec_capacity, laid_all}
use Rattle.files_mem.proofs.held.settle.Given as goal

abbrev pub invariant-loop-alloc : goal.invariant-loop-alloc
invariant-loop-alloc l = record {
  told : laid_all l.back.items (arc_value l.store) ≡ laid_all l.fn.back.items (arc_value l.fn.store);
  len : vec_len l.back ≤ vec_len l.fn.back;
  capacity : vec_capacity l.back ≡ vec_capacity l.fn.back;
}

abbrev pub decreases-loop-alloc : goal.decreases-loop-alloc
decreases-loop-alloc l = vec_len l.back
