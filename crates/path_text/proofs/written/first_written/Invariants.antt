use Rattle.path_text.proofs.Prelude.{◌≡◌, ◌≤◌, length, slice_split, is_slash, first_written}
use Rattle.path_text.proofs.written.first_written.Given as goal

-- the names so far have no fault
abbrev pub invariant-loop-end : goal.invariant-loop-end
invariant-loop-end l = record {
  told : first_written (slice_split is_slash l.bytes) ≡ first_written (slice_split is_slash l.rest);
  shorter : length l.rest ≤ length l.bytes;
}

abbrev pub decreases-loop-end : goal.decreases-loop-end
decreases-loop-end l = length l.rest
