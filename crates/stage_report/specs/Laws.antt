-- The laws of stages. That a checkpoint leads to the whole is the aim of libcircle (LaFon et al., SC 2012); the statements are our
-- own.
use Rattle.std.specs.Prelude.{◌≡◌, ◌⊎◌, ℕ, List, [], Option, Some, None, All, true, is_some}
use Rattle.std.specs.List.{sum_by}
use Rattle.outside.specs.Tree.{Files, IsTree}
use Rattle.outside.specs.Count.{StoodStill}
use Rattle.entry_pages.specs.declared.entries.Entry.{Entry}
use Rattle.tool_words.specs.Asked.{StageAsked, ListAsked, roots}
use Rattle.tool_words.specs.Limits.{Valid, WithinStage}
use Rattle.tree_walk.specs.Walk.{weight_of}
use Rattle.tree_walk.specs.Roots.{IsRoots}
use Rattle.tree_walk.specs.Cut.{IsCut}
use Rattle.cut_laws.specs.Local.{SameBelow}
use Rattle.run_report.specs.declared.reports.Report.{Report}
use Rattle.run_report.specs.declared.stops.Stop.{Stop}
use Rattle.run_report.specs.declared.stops.Stop.TheVariants as stop
use Rattle.run_report.specs.Sides.{Side}
use Rattle.checkpoints.specs.Kept.{IsKept}
use Rattle.list_report.specs.Lists.{ReportsList}
use Rattle.stage_report.specs.Stages.{all_of, ReportsStage, StopsStage, IsStopped, FineStage}

-- the directory in a tree holds a checkpoint that is a cut of a walk of the starts. The walked tree is, at and under them, as this
-- one
pub record HoldsCut (dir : List ℕ) (starts : List (List ℕ)) (files : Files) : Type 0 where
  pub done : List Entry
  pub left : List (List (List ℕ))
  pub kept : IsKept dir done left files
  pub some_rank : (left ≡ []) → ⊥
  pub walked : Files
  pub tree : IsTree walked
  pub same : SameBelow starts walked files
  pub cut : IsCut walked starts done (all_of left)

-- so begins a stage of a walk of the starts: at paths of which they are the roots, or at a cut of them
abbrev pub BeginsWalk : Option (List (List ℕ)) → List ℕ → Files → List (List ℕ) → Type 0
BeginsWalk (Some given) dir files starts = IsRoots given starts
BeginsWalk None dir files starts = HoldsCut dir starts files

-- a stage of a walk that stops leaves a cut of it, if the files that it wrote are neither at nor under a start
abbrev pub CheckpointsAreCuts : Type 0
CheckpointsAreCuts = (asked : StageAsked) (before after : Side) (why : Stop) (files new : Files) (starts : List (List ℕ)) →
    WithinStage asked → IsTree files → before.tree ≡ Some files → after.tree ≡ Some new → SameBelow starts files new →
    BeginsWalk asked.starts asked.lists files starts → IsStopped asked before after why → HoldsCut asked.lists starts new

-- a stage reports a stop for one reason alone: its walk was cut, its checkpoint was kept, and every other path is as before
abbrev pub StoppedStagesAreKept : Type 0
StoppedStagesAreKept = (asked : StageAsked) (before after : Side) (handled left : ℕ) →
    StopsStage asked before after (stop.Stopped handled left) → IsStopped asked before after (stop.Stopped handled left)

-- a stage that goes on from a cut of a walk and ends prints the same as a dwalk without a stop, if no answer failed in any of them
abbrev pub StagesPrintTheWalk : Type 0
StagesPrintTheWalk = (asked : StageAsked) (before after : Side) (report : Report) (files : Files) (listed : ListAsked) (now : ℕ) (first last : Side)
    (whole : Report) (other : Files) (given starts : List (List ℕ)) →
    before.tree ≡ Some files → asked.starts ≡ None → (cut : HoldsCut asked.lists starts files) → sum_by weight_of cut.done ≡ 0 →
    ReportsStage asked before after report → StoodStill before.count after.count →
    first.tree ≡ Some other → SameBelow starts files other → All Valid given → IsRoots given starts →
    listed.start ≡ roots given → listed.chosen ≡ None → listed.sort ≡ asked.sort →
    ReportsList listed now first last whole → StoodStill first.count last.count →
    report.out ≡ whole.out

-- a stage against which nothing stands names nothing, and stops for want of memory alone, or because it was to stop
pub record StageSucceeds (asked : StageAsked) (before after : Side) : Type 0 where
  pub names_nothing : (report : Report) → ReportsStage asked before after report → report.failed ≡ 0
  pub stops_in_time : (why : Stop) → StopsStage asked before after why →
      (why ≡ stop.OutOfMemory) ⊎ ((is_some asked.stop_after ≡ true) × ((handled left : ℕ) × (why ≡ stop.Stopped handled left)))

abbrev pub FineStageSucceeds : Type 0
FineStageSucceeds = (asked : StageAsked) (before after : Side) → WithinStage asked → FineStage asked before after → StageSucceeds asked before after
