use Rattle.files_mem.proofs.Prelude.{◌≡◌, ◌++◌, ◌∷◌, [], length, front}
use Rattle.files_mem.proofs.Listed.{Listable, Reading}
use Rattle.files_mem.proofs.child_names.list.Given as goal

abbrev pub invariant-loop-key : goal.invariant-loop-key
invariant-loop-key l = record {
  given : Listable l.path (front l.path ++ 1 ∷ []) l.map.entries;
  reading : Reading l.path (front l.path ++ 1 ∷ []) l.map.entries l.entries l.listing.0;
  unnamed : l.listing.1 ≡ 0;
  far : l.listing.2 ≡ 0;
}

abbrev pub decreases-loop-key : goal.decreases-loop-key
decreases-loop-key l = length l.entries
