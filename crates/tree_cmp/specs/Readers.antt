-- The readers of a comparison: the tree that they tell, their counts of faults, and their answers to reads that gave nothing. Our own.
use Rattle.std.specs.Prelude.{◌≡◌, ℕ, ◌+◌, ◌<◌, List, [], ◌∷◌, Option, Some, None, Ok, Err, ◌⊎◌, IfSome, All}
use Rattle.std.specs.FinMap.{get}
use Rattle.std.specs.Option.{option_map}
use Rattle.outside.specs.Answered.{LastRead}
use Rattle.outside.specs.Asked.{Asks}
use Rattle.outside.specs.Tree.{Files, stat_of}
use Rattle.outside.specs.declared.trees.ReadError.TheVariants.{Failed, NotFile}
use Rattle.entry_pages.specs.declared.entries.Entry.{Entry}
use Rattle.tree_cmp.specs.Rows.{Findings}
pub use Rattle.shared_reads.specs.Counts.{NoneFell, is_at_end, RoseTogether}

-- the tree that the first of some readers tells, if it tells one
abbrev pub first_told : List (Option Files) → Option Files
first_told [] = None
first_told (tree ∷ trees) = tree

-- all tell what the first tells
abbrev pub Alike : List (Option Files) → Type 0
Alike trees = All (λ tree. tree ≡ first_told trees) trees

-- each entry that has a stat has the one that the tree tells. The entries of a walk of the tree do
abbrev pub StatsTold : Files → List Entry → Type 0
StatsTold files entries = All (λ e. IfSome e.stat (λ stat. option_map stat_of (get files e.path) ≡ Some stat)) entries

-- some read of the path failed
pub record ShowsFailure {S : Type 0} (gives : Asks S) (path : List ℕ) : Type 0 where
  pub at : ℕ
  pub after : S
  pub read : LastRead gives path at (Err Failed) after

-- some read of the path gave no byte, or found no file
pub record ShowsChange {S : Type 0} (gives : Asks S) (path : List ℕ) : Type 0 where
  pub at : ℕ
  pub after : S
  pub read : LastRead gives path at (Ok 0) after ⊎ LastRead gives path at (Err NotFile) after

-- some read of the file gave its last bytes, so it was read up to this size
pub record ShowsWhole {S : Type 0} (gives : Asks S) (size : ℕ) (path : List ℕ) : Type 0 where
  pub at : ℕ
  pub bytes : ℕ
  pub some : 0 < bytes
  pub ends : at + bytes ≡ size
  pub after : S
  pub read : LastRead gives path at (Ok bytes) after

-- a read asked for each file that is named as failed or changed at this very path, and got that answer
pub record HaveCauses {S : Type 0} (gives : Asks S) (found : Findings) : Type 0 where
  pub failed : All (λ m. ShowsFailure gives m.path) found.failed
  pub changed : All (λ m. ShowsChange gives m.path) found.changed
