-- Definitions that only private clauses cite. Our own.
use Rattle.std.specs.Prelude.{◌≡◌, ◌⊎◌, ℕ, ◌≤◌, length, map, List, Option, None, All, true, false}
use Rattle.std.specs.List.Sorted.{IsStrictlySortedBy}
use Rattle.path_text.specs.Order.{path_cmp}
use Rattle.outside.specs.Tree.{Files}
use Rattle.entry_pages.specs.declared.entries.Entry.{Entry}
use Rattle.entry_pages.specs.Entries.{is_shaped}
use Rattle.flat_list.specs.Spelling.{paths, max_entries}
use Rattle.tool_words.specs.declared.commands.Common.{Common}
use Rattle.tree_walk.specs.declared.reports.Cut.{Cut}
use Rattle.tree_walk.specs.declared.reports.WalkReport.{WalkReport}
use Rattle.tree_walk.specs.declared.reports.Walked.TheVariants as walked
use Rattle.tree_walk.specs.Cut.{IsJoined}
use Rattle.tree_walk.specs.Roots.{is_in_some}
use Rattle.run_report.specs.Sides.{Side}
use Rattle.run_report.specs.declared.stops.Stop.{Stop}
use Rattle.run_report.specs.declared.stops.Stop.TheVariants as stop
use Rattle.checkpoints.specs.Stopping.{StopsReading}
use Rattle.stage_report.specs.declared.walking.Stage.{Stage}
use Rattle.stage_report.specs.declared.walking.Stage.TheVariants as stage
use Rattle.stage_report.specs.Stages.{Begins, IsFinished, IsCutOff, FindsTooMany}

-- the list of a stage
abbrev pub list_in : Stage → List Entry
list_in (stage.Finished list account) = list
list_in (stage.Cut handled done left) = done

-- the result of a stage, from the done entries and the paths that it walks
abbrev pub IsStage : Option ℕ → Common → Option Files → List Entry → List (List ℕ) → ℕ → ℕ → Stage → Type 0
IsStage stop common tree done starts old new (stage.Finished list account) = IsFinished stop common tree done starts old new list account
IsStage stop common tree done starts old new (stage.Cut handled list left) =
    IsCutOff stop common tree done starts old new handled list (map (λ strings. strings.items) left.items)

-- it can be written to a file: its paths ascend, and each entry has its shape
pub record IsWritable (list : List Entry) : Type 0 where
  pub ascend : IsStrictlySortedBy path_cmp (paths list)
  pub shaped : All (λ e. is_shaped e ≡ true) list

-- nothing that is done is equal to or under a path that is to be walked
abbrev pub IsBeside : List Entry → List (List ℕ) → Type 0
IsBeside done starts = All (λ e. is_in_some starts e.path ≡ false) done

-- a stage has no result
abbrev pub StopsWalk : Option ℕ → Common → Option Files → List Entry → List (List ℕ) → ℕ → ℕ → Stop → Type 0
StopsWalk limit common tree done starts old new why = (why ≡ stop.OutOfMemory) ⊎ ((why ≡ stop.TooMany) × FindsTooMany limit common tree done starts old new)

-- a stage begins, at given paths or at the checkpoint in a directory, and has this result. The files tell the same tree as before
pub record Walks (given : Option (List (List ℕ))) (dir : List ℕ) (limit : Option ℕ) (common : Common) (before after : Side) (stage : Stage) : Type 0 where
  pub done : List Entry
  pub starts : List (List ℕ)
  pub count : ℕ
  pub begins : Begins given dir before done starts
  pub kept : before.count ≤ count
  pub is : IsStage limit common before.tree done starts count after.count stage
  pub few : length (list_in stage) ≤ max_entries
  pub same : after.tree ≡ before.tree

-- it finds too many entries
pub record WalksTooMuch (given : Option (List (List ℕ))) (dir : List ℕ) (limit : Option ℕ) (common : Common) (before after : Side) : Type 0 where
  pub done : List Entry
  pub starts : List (List ℕ)
  pub count : ℕ
  pub begins : Begins given dir before done starts
  pub kept : before.count ≤ count
  pub many : FindsTooMany limit common before.tree done starts count after.count

-- or it has no result for another reason
abbrev pub WalksNot : Option (List (List ℕ)) → List ℕ → Option ℕ → Common → Side → Side → Stop → Type 0
WalksNot given dir limit common before after why =
    (why ≡ stop.OutOfMemory)
    ⊎ (((given ≡ None) × StopsReading dir before after why) ⊎ ((why ≡ stop.TooMany) × WalksTooMuch given dir limit common before after))

-- it is the result of a walk, with the entries that were done before it
abbrev pub IsStageOf : List Entry → WalkReport → Stage → Type 0
IsStageOf done report (stage.Finished list account) =
    (report.walked ≡ walked.Whole) × IsJoined done report.list list
    × (account ≡ record { events = report.events; shares = report.shares; sums = report.sums })
IsStageOf done report (stage.Cut handled list left) =
    (cut : Cut) × (report.walked ≡ walked.Cut cut) × (handled ≡ length cut.done) × IsJoined done cut.done list × (left ≡ cut.left)
