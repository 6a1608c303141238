use Rattle.path_text.proofs.Prelude.{◌≡◌, ◌≤◌, length, slice_split, first_fault, is_slash}
use Rattle.path_text.proofs.faults.first_fault.Given as goal

-- the names so far have no fault
abbrev pub invariant-loop-end : goal.invariant-loop-end
invariant-loop-end l = record {
  told : first_fault (slice_split is_slash l.bytes) ≡ first_fault (slice_split is_slash l.rest);
  shorter : length l.rest ≤ length l.bytes;
}

abbrev pub decreases-loop-end : goal.decreases-loop-end
decreases-loop-end l = length l.rest
