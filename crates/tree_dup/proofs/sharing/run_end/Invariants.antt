use Rattle.tree_dup.proofs.Prelude.{◌≡◌, ℕ, ◌-◌, ◌<◌, ◌≤◌, length, get_or, File}
use Rattle.tree_dup.proofs.sharing.run_end.Given as goal

abbrev pub invariant-loop-end : goal.invariant-loop-end
invariant-loop-end l = record {
  from : l.place < l.end;
  to : l.end ≤ length l.files;
  sizes : (k : ℕ) (d : File) → l.place ≤ k → k < l.end → (get_or l.files k d).size ≡ (get_or l.files l.place d).size;
}

abbrev pub decreases-loop-end : goal.decreases-loop-end
decreases-loop-end l = length l.files - l.end
