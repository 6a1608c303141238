-- The counts of the readers and the failed reads. Our own.
use Rattle.std.specs.Prelude.{◌≡◌, ℕ, false, List}
use Rattle.tree_cmp.specs.Readers.{is_at_end, RoseTogether}

-- no more reads failed than were counted, so none failed if no count rose
abbrev pub FaultsAreTold : Type 0
FaultsAreTold = (failed : ℕ) (old new : List ℕ) → RoseTogether failed old new → new ≡ old → is_at_end new ≡ false → failed ≡ 0
