-- A checkpoint in a directory: the list file of the done entries, and for each rank the file of its left strings. Our own, after
-- libcircle's checkpoint (SC 2012), which has the ranks' files alone.
use Rattle.std.specs.Prelude.{ℕ, ◌≤◌, List, ◌∷◌, length, map, IfSome, codes}
use Rattle.std.specs.List.{flat_map, range_with_len}
use Rattle.std.specs.FinMap.{get}
use Rattle.path_text.specs.Path.{joined}
use Rattle.outside.specs.Tree.{Files}
use Rattle.outside.specs.Whole.{HoldsFile}
use Rattle.entry_pages.specs.declared.entries.Entry.{Entry}
use Rattle.flat_list.specs.Spelling.{Spells, SpellsAs, max_entries}
use Rattle.flat_list.specs.declared.versions.Version.TheVariants.{Two}
use Rattle.circle_lists.specs.Spelling.{IsRank}
use Rattle.circle_lists.specs.Checkpoint.{file_path, HoldLists}
use Rattle.run_report.specs.Sides.{Side}
use Rattle.run_entries.specs.Entries.{IsRead}
use Rattle.checkpoints.specs.Placing.{ArePlaced}

-- the path of the list file in the folder
abbrev pub list_path : List ℕ → List ℕ
list_path dir = joined dir (codes "circle.list")

-- the paths of all files of a checkpoint of so many ranks
abbrev pub checkpoint_paths : List ℕ → ℕ → List (List ℕ)
checkpoint_paths dir ranks = list_path dir ∷ map (file_path dir) (range_with_len 0 ranks)

-- the file at the path is the list file of the entries
abbrev pub HoldsEntries : List ℕ → List Entry → Files → Type 0
HoldsEntries path entries files = (bytes : List ℕ) × HoldsFile bytes (get files path) × Spells bytes entries

-- the same, in version 2 of list files, in which lists are written
abbrev pub HoldsNewest : List ℕ → List Entry → Files → Type 0
HoldsNewest path entries files = (bytes : List ℕ) × HoldsFile bytes (get files path) × SpellsAs Two bytes entries

-- the folder's files hold these done entries and, by rank, these left strings
pub record IsKept (dir : List ℕ) (done : List Entry) (left : List (List (List ℕ))) (files : Files) : Type 0 where
  pub list : HoldsEntries (list_path dir) done files
  pub ranks : HoldLists dir left files

-- a checkpoint was read: where the files tell their tree they hold it
pub record IsCheckpoint (dir : List ℕ) (before : Side) (done : List Entry) (left : List (List (List ℕ))) : Type 0 where
  pub list : IsRead (list_path dir) done before
  pub few : length done ≤ max_entries
  pub ranks : IfSome before.tree (HoldLists dir left)
  pub number : IsRank 0 (length left)
  -- and each left string can stand beside the done entries and the other left strings
  pub placed : ArePlaced done (flat_map (λ l. l) left)
