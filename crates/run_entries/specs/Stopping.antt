-- Why a run stops while it finds or saves its entries, step by step. Our own.
use Rattle.std.specs.Prelude.{◌≡◌, ◌⊎◌, ℕ, ◌<◌, ◌≤◌, List, ◌∷◌, ◌++◌, length, Option, IfSome, false}
use Rattle.std.specs.FinMap.{get}
use Rattle.outside.specs.Tree.{is_file}
use Rattle.outside.specs.Count.{RoseBy}
use Rattle.outside.specs.Whole.{HoldsFile, can_save}
use Rattle.entry_pages.specs.declared.entries.Entry.{Entry}
use Rattle.flat_list.specs.Spelling.{IsRefused, IsTooLong, max_entries}
use Rattle.path_looks.specs.declared.looks.Look.{Look}
use Rattle.path_looks.specs.Looks.{AreLooks}
use Rattle.tool_words.specs.Asked.{Origin, roots, input, Choice}
use Rattle.tree_walk.specs.declared.errors.WalkError.{WalkError}
use Rattle.tree_walk.specs.declared.errors.WalkError.TheVariants as walked
use Rattle.run_report.specs.declared.stops.Trouble.TheVariants as trouble
use Rattle.run_report.specs.declared.stops.Stop.{Stop}
use Rattle.run_report.specs.declared.stops.Stop.TheVariants as stop
use Rattle.run_report.specs.Sides.{Side, side_with}
use Rattle.run_entries.specs.declared.saving.Output.{Output}
use Rattle.run_entries.specs.Choosing.{newer_in, tests_in, chosen_of}
use Rattle.run_entries.specs.Entries.{Walked, Surveyed}
use Rattle.run_entries.specs.Saving.{Saved, output_of}

-- no file is there to be read
pub record IsAbsent (start : Origin) (before : Side) (path : List ℕ) : Type 0 where
  pub named : start ≡ input path
  pub told : IfSome before.tree (λ files. is_file (get files path) ≡ false)

-- the list that is read is none: where the files tell their tree, this is the first line through which its bytes begin no list file
pub record IsDamagedList (start : Origin) (before : Side) (path : List ℕ) (line : ℕ) : Type 0 where
  pub named : start ≡ input path
  pub told : IfSome before.tree (λ files. (bytes : List ℕ) × HoldsFile bytes (get files path) × IsRefused bytes line)

-- the files failed while the list file was read
pub record FailedRead (start : Origin) (before after : Side) (path : List ℕ) : Type 0 where
  pub named : start ≡ input path
  pub counted : RoseBy 1 before.count after.count

-- a walk of more entries than a list may have
pub record IsTooLongWalk (given : List (List ℕ)) (before after : Side) : Type 0 where
  pub entries : List Entry
  pub walked : Walked given entries before after
  pub many : max_entries < length entries

-- more entries than a list may have: those of a walk, or those that stand first in the list that is read
abbrev pub HasTooManyEntries : Origin → Side → Side → Type 0
HasTooManyEntries (roots given) before after = IsTooLongWalk given before after
HasTooManyEntries (input path) before after = IfSome before.tree (λ files. (bytes : List ℕ) × HoldsFile bytes (get files path) × IsTooLong bytes)

-- the entries were not listed
abbrev pub StopsListing : Origin → Side → Side → Stop → Type 0
StopsListing start before after stop.OutOfMemory = Unit {0}
StopsListing start before after stop.Overlap = ⊥
StopsListing start before after stop.NoDirectory = ⊥
StopsListing start before after stop.TooMany = HasTooManyEntries start before after
StopsListing start before after (stop.Stopped handled left) = ⊥
StopsListing start before after (stop.Damaged path line) = IsDamagedList start before path line
StopsListing start before after (stop.ListFile trouble.Absent path) = IsAbsent start before path
StopsListing start before after (stop.ListFile trouble.NoPlace path) = ⊥
StopsListing start before after (stop.ListFile trouble.Fault path) = FailedRead start before after path

-- they were not, though the paths of `--newer` were looked at, which comes before
pub record StopsAfterLooks (start : Origin) (choice : Option Choice) (before after : Side) (why : Stop) : Type 0 where
  pub looks : List Look
  pub between : ℕ
  pub looked : AreLooks before.tree (newer_in choice) looks before.count between
  pub later : between ≤ after.count
  pub stops : StopsListing start (side_with before.tree between) after why

-- nothing was found: for want of memory, or since the entries were not listed
abbrev pub StopsFinding : Origin → Option Choice → Side → Side → Stop → Type 0
StopsFinding start choice before after why = (why ≡ stop.OutOfMemory) ⊎ StopsAfterLooks start choice before after why

-- no file can be where the output is to be written
pub record HasNoPlace (output : Output) (before : Side) (path : List ℕ) : Type 0 where
  pub named : path ≡ output.path
  pub told : IfSome before.tree (λ files. can_save files output.path ≡ false)

-- the files failed while it was written
pub record FailedWrite (output : Output) (before after : Side) (path : List ℕ) : Type 0 where
  pub named : path ≡ output.path
  pub counted : RoseBy 1 before.count after.count

-- it was not saved
abbrev pub StopsAt : Output → Side → Side → Stop → Type 0
StopsAt output before after stop.OutOfMemory = Unit {0}
StopsAt output before after stop.Overlap = ⊥
StopsAt output before after stop.NoDirectory = ⊥
StopsAt output before after stop.TooMany = ⊥
StopsAt output before after (stop.Stopped handled left) = ⊥
StopsAt output before after (stop.Damaged path line) = ⊥
StopsAt output before after (stop.ListFile trouble.Absent path) = ⊥
StopsAt output before after (stop.ListFile trouble.NoPlace path) = HasNoPlace output before path
StopsAt output before after (stop.ListFile trouble.Fault path) = FailedWrite output before after path

-- not all outputs were saved: the first that was not, after those that stand before it
pub record StopsSaving (outputs : List Output) (before after : Side) (why : Stop) : Type 0 where
  pub earlier : List Output
  pub first : Output
  pub later : List Output
  pub are : outputs ≡ earlier ++ first ∷ later
  pub between : Side
  pub saved : Saved earlier before.tree between.tree
  pub kept : before.count ≤ between.count
  pub still : between.count ≤ after.count
  pub stops : StopsAt first between after why

-- what was chosen of the entries was not saved, though they were looked for and listed before, and were no more than a list may have
pub record StopsAfterListing (start : Origin) (choice : Option Choice) (output : Option (List ℕ)) (before after : Side) (why : Stop) : Type 0 where
  pub looks : List Look
  pub entries : List Entry
  pub between : ℕ
  pub survey : Surveyed start choice before (side_with before.tree between) looks entries
  pub later : between ≤ after.count
  pub now : ℕ
  pub stops : StopsSaving (output_of output (chosen_of (tests_in choice) looks now entries)) (side_with before.tree between) after why

-- why a walk gave no list
abbrev pub stop_of_walk : WalkError → Stop
stop_of_walk walked.OutOfMemory = stop.OutOfMemory
stop_of_walk (walked.TooMany n) = stop.TooMany
