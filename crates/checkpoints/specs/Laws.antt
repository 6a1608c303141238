-- Laws of checkpoints. Our own.
use Rattle.std.specs.Prelude.{◌≡◌, ℕ, ◌<◌, ◌≤◌, true, List, length, Some, None, All}
use Rattle.std.specs.List.{flat_map}
use Rattle.path_text.specs.Path.{refusal}
use Rattle.outside.specs.Tree.{Files}
use Rattle.outside.specs.Count.{StoodStill}
use Rattle.outside.specs.Whole.{can_save}
use Rattle.entry_pages.specs.declared.entries.Entry.{Entry}
use Rattle.flat_list.specs.Spelling.{max_entries}
use Rattle.circle_lists.specs.Checkpoint.{AllFit}
use Rattle.run_report.specs.declared.stops.Stop.{Stop}
use Rattle.run_report.specs.declared.stops.Stop.TheVariants as stop
use Rattle.run_report.specs.Sides.{Side}
use Rattle.checkpoints.specs.Kept.{list_path, checkpoint_paths, IsKept}
use Rattle.checkpoints.specs.Placing.{ArePlaced}
use Rattle.checkpoints.specs.Stopping.{StopsReading, StopsWriting}

-- the files of a folder hold one checkpoint
abbrev pub CheckpointsAreOne : Type 0
CheckpointsAreOne =
    (dir : List ℕ) (done others : List Entry) (left rest : List (List (List ℕ))) (files : Files) → 0 < length left → 0 < length rest
    → IsKept dir done left files → IsKept dir others rest files → (done ≡ others) × (left ≡ rest)

-- nothing is in the way of reading a checkpoint: it is there, no longer than a list may be, and placed, and the paths of its files
-- are not too long
pub record IsFineKept (dir : List ℕ) (done : List Entry) (left : List (List (List ℕ))) (files : Files) : Type 0 where
  pub kept : IsKept dir done left files
  pub some : 0 < length left
  pub few : length done ≤ max_entries
  pub placed : ArePlaced done (flat_map (λ l. l) left)
  pub near : length (list_path dir) ≤ 4095
  pub fit : AllFit dir (length left)

-- then only want of memory stops the reading, if no fault is counted
abbrev pub FineReadsStopForMemory : Type 0
FineReadsStopForMemory =
    (dir : List ℕ) (done : List Entry) (left : List (List (List ℕ))) (files : Files) (before after : Side) (why : Stop) → before.tree ≡ Some files
    → StoodStill before.count after.count → IsFineKept dir done left files → StopsReading dir before after why → why ≡ stop.OutOfMemory

-- a file can be saved at the path, which is not too long
pub record IsFree (files : Files) (path : List ℕ) : Type 0 where
  pub place : can_save files path ≡ true
  pub near : length path ≤ 4095

-- the writing stops only if it is out of memory, if each of its files has a place before and no fault is counted: a written file
-- takes no place away
abbrev pub FineWritesStopForMemory : Type 0
FineWritesStopForMemory =
    (dir : List ℕ) (ranks : ℕ) (done : List Entry) (files : Files) (before after : Side) (why : Stop) → refusal dir ≡ None → ranks ≤ 64
    → before.tree ≡ Some files → StoodStill before.count after.count → All (IsFree files) (checkpoint_paths dir ranks)
    → StopsWriting dir ranks done before after why → why ≡ stop.OutOfMemory
