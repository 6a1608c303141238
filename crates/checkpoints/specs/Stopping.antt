-- Why no checkpoint is read or written, step by step. Our own.
use Rattle.std.specs.Prelude.{◌≡◌, ◌⊎◌, ℕ, ◌+◌, ◌<◌, ◌≤◌, true, List, length, Some, None, is_some, IfSome}
use Rattle.std.specs.FinMap.{get}
use Rattle.outside.specs.Count.{RoseBy}
use Rattle.outside.specs.Tree.{Files, is_dir}
use Rattle.outside.specs.Writes.{SameBut}
use Rattle.entry_pages.specs.declared.entries.Entry.{Entry}
use Rattle.circle_lists.specs.declared.errors.ListsError.{ListsError}
use Rattle.circle_lists.specs.declared.errors.ListsError.TheVariants as error
use Rattle.circle_lists.specs.Spelling.{IsRank}
use Rattle.circle_lists.specs.Checkpoint.{file_path, HoldLists, SameButFiles, HasPlace}
use Rattle.circle_lists.specs.Checkpoint as lists
use Rattle.tool_words.specs.Asked.{input}
use Rattle.run_report.specs.declared.stops.Trouble.TheVariants as trouble
use Rattle.run_report.specs.declared.stops.Stop.{Stop}
use Rattle.run_report.specs.declared.stops.Stop.TheVariants as stop
use Rattle.run_report.specs.Sides.{Side}
use Rattle.run_entries.specs.Entries.{IsRead}
use Rattle.run_entries.specs.Saving.{output_of}
use Rattle.run_entries.specs.Stopping.{StopsListing, StopsSaving}
use Rattle.checkpoints.specs.Kept.{list_path}
use Rattle.checkpoints.specs.Placing.{IsFirstMisplaced}

-- the stop that an error of the ranks' files is
abbrev pub stop_of_lists : ListsError → Stop
stop_of_lists (error.Failed path) = stop.ListFile trouble.Fault path
stop_of_lists error.OutOfMemory = stop.OutOfMemory
stop_of_lists (error.Damaged path line) = stop.Damaged path line
stop_of_lists (error.NoFile path) = stop.ListFile trouble.Absent path
stop_of_lists (error.NoPlace path) = stop.ListFile trouble.NoPlace path

-- ---- reading

-- the path of the list file would be too long: the stop names the directory
pub record HasLongList (dir : List ℕ) (why : Stop) : Type 0 where
  pub long : 4095 < length (list_path dir)
  pub told : why ≡ stop.ListFile trouble.Absent dir

-- the list file was not read
pub record HasNoList (dir : List ℕ) (before after : Side) (why : Stop) : Type 0 where
  pub fits : length (list_path dir) ≤ 4095
  pub stops : StopsListing (input (list_path dir)) before after why

-- it was, and the ranks' files were not
pub record HasNoRanks (dir : List ℕ) (before after : Side) (why : Stop) : Type 0 where
  pub done : List Entry
  pub list : IsRead (list_path dir) done before
  pub error : ListsError
  pub stops : lists.StopsReading dir before.tree before.count after.count error
  pub told : why ≡ stop_of_lists error

-- the stop names the first left string that is misplaced, by the file of its rank and by its line. The head is line 1
pub record TellsMisplaced (dir : List ℕ) (done : List Entry) (left : List (List (List ℕ))) (why : Stop) : Type 0 where
  pub rank : ℕ
  pub place : ℕ
  pub first : IsFirstMisplaced done left rank place
  pub told : why ≡ stop.Damaged (file_path dir rank) (place + 2)

-- all files were read, and a left string is misplaced
pub record HasMisplaced (dir : List ℕ) (before : Side) (why : Stop) : Type 0 where
  pub done : List Entry
  pub left : List (List (List ℕ))
  pub list : IsRead (list_path dir) done before
  pub ranks : IfSome before.tree (HoldLists dir left)
  pub number : IsRank 0 (length left)
  pub tells : TellsMisplaced dir done left why

-- no checkpoint was read
abbrev pub StopsReading : List ℕ → Side → Side → Stop → Type 0
StopsReading dir before after why =
    (why ≡ stop.OutOfMemory) ⊎ HasLongList dir why ⊎ HasNoList dir before after why ⊎ HasNoRanks dir before after why ⊎ HasMisplaced dir before why

-- ---- writing

-- the path of the list file would be too long: the stop names the directory
pub record HasNoName (dir : List ℕ) (why : Stop) : Type 0 where
  pub long : 4095 < length (list_path dir)
  pub told : why ≡ stop.ListFile trouble.NoPlace dir

-- the old list file was not removed
pub record KeptOldList (dir : List ℕ) (before after : Side) (why : Stop) : Type 0 where
  pub counted : RoseBy 1 before.count after.count
  pub told : why ≡ stop.ListFile trouble.Fault (list_path dir)

-- nothing is at the path any more, or a directory that was there; every other path is as before
pub record IsGone (path : List ℕ) (old new : Files) : Type 0 where
  pub others : SameBut path old new
  pub gone : (get new path ≡ None) ⊎ ((is_dir (get old path) ≡ true) × (new ≡ old))

-- the old list file was removed, if there was one
pub record IsCleared (dir : List ℕ) (before after : Side) : Type 0 where
  pub tells : is_some after.tree ≡ is_some before.tree
  pub gone : IfSome before.tree (λ old. IfSome after.tree (IsGone (list_path dir) old))
  pub kept : before.count ≤ after.count

-- the ranks' files were not written, and every path but theirs is as before
pub record WroteNoRanks (dir : List ℕ) (ranks : ℕ) (before after : Side) (why : Stop) : Type 0 where
  pub error : ListsError
  pub stops : lists.StopsWriting dir ranks before.tree before.count after.count error
  pub told : why ≡ stop_of_lists error
  pub rest : IfSome before.tree (λ files. IfSome after.tree (SameButFiles dir ranks files))

-- they were, each at a place that it had before, and the list file was not
pub record WroteNoList (dir : List ℕ) (ranks : ℕ) (done : List Entry) (before after : Side) (why : Stop) : Type 0 where
  pub places : (rank : ℕ) → rank < ranks → HasPlace dir before.tree rank
  pub between : Side
  pub tells : is_some between.tree ≡ is_some before.tree
  pub rest : IfSome before.tree (λ files. IfSome between.tree (SameButFiles dir ranks files))
  pub kept : before.count ≤ between.count
  pub stops : StopsSaving (output_of (Some (list_path dir)) done) between after why

-- the old list file was removed, and then not all was written
pub record WroteTorn (dir : List ℕ) (ranks : ℕ) (done : List Entry) (before after : Side) (why : Stop) : Type 0 where
  pub between : Side
  pub cleared : IsCleared dir before between
  pub still : between.count ≤ after.count
  pub stops : WroteNoRanks dir ranks between after why ⊎ WroteNoList dir ranks done between after why

-- no checkpoint was written
abbrev pub StopsWriting : List ℕ → ℕ → List Entry → Side → Side → Stop → Type 0
StopsWriting dir ranks done before after why =
    (why ≡ stop.OutOfMemory) ⊎ HasNoName dir why ⊎ KeptOldList dir before after why ⊎ WroteTorn dir ranks done before after why

-- the directory has no list file then, or a directory at its path, so that no checkpoint is read. Or every path but that one is as
-- before. Or it has the files of all ranks
abbrev pub IsTorn : List ℕ → List (List (List ℕ)) → Files → Files → Type 0
IsTorn dir left old new =
    (get new (list_path dir) ≡ None) ⊎ (is_dir (get new (list_path dir)) ≡ true) ⊎ SameBut (list_path dir) old new ⊎ HoldLists dir left new
