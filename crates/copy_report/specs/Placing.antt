-- The targets of dcp's sources, and the walk of the sources. The tool is mpiFileUtils', after cp; the relation is our own.
use Rattle.std.specs.Prelude.{◌≡◌, ℕ, ◌≤◌, Bool, List, length, Option, IfSome, Result, Ok, Err}
use Rattle.std.specs.FinMap.{get}
use Rattle.path_text.specs.Path.{parent_of}
use Rattle.outside.specs.Tree.{Files, is_dir}
use Rattle.entry_pages.specs.declared.entries.Entry.{Entry}
use Rattle.flat_list.specs.Spelling.{max_entries}
use Rattle.tree_copy.specs.Placing.{placed}
use Rattle.tree_copy.specs.declared.pairs.Pair.{Pair}
use Rattle.tree_copy.specs.declared.pairs.PlaceError.{PlaceError}
use Rattle.tree_copy.specs.declared.pairs.PlaceError.TheVariants as place
use Rattle.tool_words.specs.Asked.{CopyAsked}
use Rattle.run_report.specs.Sides.{Side, side_with}
use Rattle.run_report.specs.declared.stops.Stop.{Stop}
use Rattle.run_report.specs.declared.stops.Stop.TheVariants as stop
use Rattle.run_entries.specs.Entries.{Walked}

-- the targets of the sources, or why there are none: by whether the destination is a directory, and whether its parent is
pub record Places (sources : List (List ℕ)) (dest : List ℕ) (tree : Option Files) (answer : Result (List Pair) PlaceError) : Type 0 where
  pub in_dir : Bool
  pub over_dir : Bool
  pub due : placed in_dir over_dir dest sources ≡ answer
  -- if the files show their tree, both are known from it
  pub told : IfSome tree (λ files. (in_dir ≡ is_dir (get files dest)) × (over_dir ≡ is_dir (get files (parent_of dest))))

-- the entries that are copied, and their targets: the targets were placed, and then the sources were walked, over the same files.
-- The walk is not longer than a list may be
pub record Surveys (asked : CopyAsked) (before after : Side) (pairs : List Pair) (entries : List Entry) : Type 0 where
  pub places : Places asked.sources asked.dest before.tree (Ok pairs)
  pub between : ℕ
  pub kept : before.count ≤ between
  pub walked : Walked asked.sources entries (side_with before.tree between) after
  pub few : length entries ≤ max_entries

-- two of all sources and targets overlap, or no directory is there for the targets
abbrev pub IsNowhere : CopyAsked → Option Files → Stop → Type 0
IsNowhere asked tree stop.Overlap = Places asked.sources asked.dest tree (Err place.Overlap)
IsNowhere asked tree stop.NoDirectory = Places asked.sources asked.dest tree (Err place.NoDest)
IsNowhere asked tree stop.OutOfMemory = ⊥
IsNowhere asked tree stop.TooMany = ⊥
IsNowhere asked tree (stop.Stopped handled left) = ⊥
IsNowhere asked tree (stop.Damaged path line) = ⊥
IsNowhere asked tree (stop.ListFile why path) = ⊥
