-- When nothing stands against finding and saving entries. Our own.
use Rattle.std.specs.Prelude.{◌≡◌, ℕ, ◌≤◌, List, [], length, Option, Some, All, true, Bool, is_some}
use Rattle.std.specs.FinMap.{get}
use Rattle.std.specs.List.{flat_map}
use Rattle.outside.specs.Tree.{Files}
use Rattle.outside.specs.Count.{RoseBy, StoodStill}
use Rattle.outside.specs.Whole.{HoldsFile, can_save}
use Rattle.entry_pages.specs.declared.entries.Entry.{Entry}
use Rattle.entry_pages.specs.declared.entries.Mark.TheVariants as mark
use Rattle.flat_list.specs.Spelling.{Spells, max_entries}
use Rattle.level_work.specs.declared.items.Fate.{Fate}
use Rattle.level_work.specs.declared.items.Fate.TheVariants as fate
use Rattle.tool_text.specs.declared.noting.Note.{Note}
use Rattle.tool_words.specs.declared.commands.Common.{Common}
use Rattle.tool_words.specs.Limits.{Valid, paths_in}
use Rattle.tool_words.specs.Asked.{Origin, roots, input, Choice}
use Rattle.tree_walk.specs.Walk.{walk, all_told}
use Rattle.tree_walk.specs.Roots.{IsRoots}
use Rattle.run_report.specs.declared.stops.Stop.{Stop}
use Rattle.run_report.specs.declared.stops.Stop.TheVariants as stop
use Rattle.run_report.specs.Sides.{Side}
use Rattle.run_entries.specs.declared.accounts.Account.{Account}
use Rattle.run_entries.specs.declared.saving.Output.{Output}
use Rattle.run_entries.specs.Choosing.{newer_in}
use Rattle.run_entries.specs.Naming.{copy_notes, listing_notes, removal_notes}
use Rattle.run_entries.specs.Entries.{Walked, Finds}
use Rattle.run_entries.specs.Stopping.{StopsListing, StopsFinding, StopsSaving}

-- nothing is left to name in a walk: every root is there, no directory below has a child whose path is too long, and the walk is no longer than a list may be
pub record IsFineWalk (files : Files) (given : List (List ℕ)) : Type 0 where
  pub roots : List (List ℕ)
  pub are : IsRoots given roots
  pub there : All (λ root. is_some (get files root) ≡ true) roots
  pub near : All (λ e. e.far ≡ 0) (flat_map (walk files all_told) roots)
  pub few : length (flat_map (walk files all_told) roots) ≤ max_entries

-- or in a list file: it is there, its bytes spell a list that is not too long, and each entry in it is fine
pub record IsFineList (files : Files) (path : List ℕ) : Type 0 where
  pub bytes : List ℕ
  pub holds : HoldsFile bytes (get files path)
  pub entries : List Entry
  pub spells : Spells bytes entries
  pub few : length entries ≤ max_entries
  pub fine : All (λ e. (e.mark ≡ mark.Fine) × (e.unnamed ≡ 0) × (e.far ≡ 0)) entries

abbrev pub IsFineStart : Files → Origin → Type 0
IsFineStart files (roots given) = IsFineWalk files given
IsFineStart files (input path) = IsFineList files path

-- something is at each of the paths that are looked at
abbrev pub AreThere : Files → Option Choice → Type 0
AreThere files choice = All (λ path. is_some (get files path) ≡ true) (newer_in choice)

-- the side tells a fine tree, and no fault is counted
pub record IsFineSide (start : Origin) (before after : Side) : Type 0 where
  pub files : Files
  pub told : before.tree ≡ Some files
  pub fine : IsFineStart files start
  pub stood : StoodStill before.count after.count

-- the laws

-- what is found in a fine side names nothing
abbrev pub FineFindsNameNothing : Type 0
FineFindsNameNothing =
    (common : Common) (start : Origin) (choice : Option Choice) (now : ℕ) (before after : Side) (chosen : List Entry) (notes : List Note)
    (account : Account) → All Valid (paths_in start) →
    (fine : IsFineSide start before after) → AreThere fine.files choice → Finds common start choice now before after chosen notes account → notes ≡ []

-- only want of memory stops a run that looks for entries in a fine side
abbrev pub FineFindsStopForMemory : Type 0
FineFindsStopForMemory =
    (start : Origin) (choice : Option Choice) (before after : Side) (why : Stop) → All Valid (paths_in start)
    → IsFineSide start before after → StopsFinding start choice before after why → why ≡ stop.OutOfMemory

-- what is walked by itself in a fine side names nothing, whichever side it is
abbrev pub FineWalksNameNothing : Type 0
FineWalksNameNothing =
    (given : List (List ℕ)) (entries : List Entry) (dest : Bool) (before after : Side) → All Valid given → IsFineSide (roots given) before after →
    Walked given entries before after → listing_notes (record { entries = entries; dest = dest }) ≡ []

-- it is the walk in which nothing fails
abbrev pub FineWalksAreWhole : Type 0
FineWalksAreWhole =
    (given : List (List ℕ)) (entries : List Entry) (before after : Side) → All Valid given → (fine : IsFineSide (roots given) before after) →
    Walked given entries before after → entries ≡ flat_map (walk fine.files all_told) fine.fine.roots

-- and only want of memory stops such a walk
abbrev pub FineWalksStopForMemory : Type 0
FineWalksStopForMemory =
    (given : List (List ℕ)) (before after : Side) (why : Stop) → All Valid given → IsFineSide (roots given) before after
    → StopsListing (roots given) before after why → why ≡ stop.OutOfMemory

-- only want of memory stops a run that saves outputs, where each has a place before and no fault is counted: what is saved takes no place away
abbrev pub FinePlacesStopForMemory : Type 0
FinePlacesStopForMemory =
    (outputs : List Output) (files : Files) (before after : Side) (why : Stop) → before.tree ≡ Some files
    → All (λ output. can_save files output.path ≡ true) outputs →
    StoodStill before.count after.count → StopsSaving outputs before after why → why ≡ stop.OutOfMemory

-- paths whose copies or removals are done name nothing
pub record DoneNamesNothing : Type 0 where
  pub copies : (rows : List (List ℕ × Fate)) → All (λ row. row.1 ≡ fate.Done) rows → copy_notes rows ≡ []
  pub removals : (rows : List (List ℕ × Fate)) → All (λ row. row.1 ≡ fate.Done) rows → removal_notes rows ≡ []

-- over a count that stood still nothing failed, and it stood still in each part
pub record StillCounts : Type 0 where
  pub none : (k old new : ℕ) → RoseBy k old new → StoodStill old new → k ≡ 0
  pub between : (old from until new : ℕ) → old ≤ from → from ≤ until → until ≤ new → StoodStill old new → StoodStill from until
