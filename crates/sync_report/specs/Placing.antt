-- Whether dsync's source can be synced to its destination, and the walks of both. The tool is mpiFileUtils'; the relation is our own.
use Rattle.std.specs.Prelude.{◌≡◌, ℕ, ◌≤◌, Bool, List, Option, IfSome, Result, Ok, Err}
use Rattle.std.specs.FinMap.{get}
use Rattle.path_text.specs.Path.{parent_of}
use Rattle.outside.specs.Tree.{Files, is_dir}
use Rattle.entry_pages.specs.declared.entries.Entry.{Entry}
use Rattle.tree_copy.specs.declared.pairs.Pair.{Pair}
use Rattle.tree_copy.specs.declared.pairs.PlaceError.{PlaceError}
use Rattle.tree_copy.specs.declared.pairs.PlaceError.TheVariants as place
use Rattle.tree_sync.specs.Placing.{sync_placed}
use Rattle.run_report.specs.Sides.{Side, side_with}
use Rattle.run_report.specs.declared.stops.Stop.{Stop}
use Rattle.run_report.specs.declared.stops.Stop.TheVariants as stop
use Rattle.run_entries.specs.Both.{WalksBoth, StopsEitherWalk}

-- the pair can be synced, or why it can't: by whether a directory is over its target
pub record Places (pair : Pair) (tree : Option Files) (answer : Result (Unit {0}) PlaceError) : Type 0 where
  pub over_dir : Bool
  pub due : sync_placed over_dir pair.source pair.target ≡ answer
  -- where the files tell their tree, that tells it
  pub told : IfSome tree (λ files. over_dir ≡ is_dir (get files (parent_of pair.target)))

-- the sides that are synced: the pair was placed, and then both sides were walked, over the same files
pub record Surveys (pair : Pair) (before after : Side) (source dest : List Entry) : Type 0 where
  pub places : Places pair before.tree (Ok tt)
  pub between : ℕ
  pub kept : before.count ≤ between
  pub walks : WalksBoth pair.source pair.target source dest (side_with before.tree between) after

-- source and destination overlap, or no directory is there for the destination
abbrev pub IsNowhere : Pair → Option Files → Stop → Type 0
IsNowhere pair tree stop.Overlap = Places pair tree (Err place.Overlap)
IsNowhere pair tree stop.NoDirectory = Places pair tree (Err place.NoDest)
IsNowhere pair tree stop.OutOfMemory = ⊥
IsNowhere pair tree stop.TooMany = ⊥
IsNowhere pair tree (stop.Stopped handled left) = ⊥
IsNowhere pair tree (stop.Damaged path line) = ⊥
IsNowhere pair tree (stop.ListFile why path) = ⊥

-- the pair was placed, and then one of the two walks did not come to its end
pub record StopsAfterLook (pair : Pair) (before after : Side) (why : Stop) : Type 0 where
  pub places : Places pair before.tree (Ok tt)
  pub between : ℕ
  pub kept : before.count ≤ between
  pub later : between ≤ after.count
  pub stops : StopsEitherWalk pair.source pair.target (side_with before.tree between) after why
