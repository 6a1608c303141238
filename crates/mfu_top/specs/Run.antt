-- What a run does, a line a tool. Each word stands in the tool's own room.
use Rattle.std.specs.Prelude.{◌≡◌, ◌⊎◌, ℕ, Bool, true, false, is_some}
use Rattle.tool_words.specs.Limits.{Within}
use Rattle.tool_words.specs.Asked.{Asked, list, stage, compare, copy, sync, dup, remove, test}
use Rattle.run_report.specs.declared.reports.Report.{Report}
use Rattle.run_report.specs.declared.statuses.Status.{Status}
use Rattle.run_report.specs.declared.statuses.Status.TheVariants as status
use Rattle.run_report.specs.declared.stops.Stop.{Stop}
use Rattle.run_report.specs.declared.stops.Stop.TheVariants as stop
use Rattle.run_report.specs.Sides.{Side}
use Rattle.compare_report.specs.Comparing.{ReportsCompare, StopsCompare, LeavesCompare, FineCompare}
use Rattle.copy_report.specs.Copying.{ReportsCopy, StopsCopy, LeavesCopy, FineCopy}
use Rattle.dup_report.specs.Grouping.{ReportsDup, StopsDup, LeavesDup, FineDup}
use Rattle.list_report.specs.Lists.{ReportsList, StopsList, LeavesList, FineList}
use Rattle.list_report.specs.Tests.{ReportsTest, StopsTest, LeavesTest, FineTest}
use Rattle.remove_report.specs.Removing.{ReportsRemove, StopsRemove, LeavesRemove, FineRemove}
use Rattle.stage_report.specs.Stages.{ReportsStage, StopsStage, LeavesStage, FineStage}
use Rattle.sync_report.specs.Syncing.{ReportsSync, StopsSync, LeavesSync, FineSync}

-- what it reports that ends with status 0, 1 or 4, of the side before and the side after it
abbrev pub Reports : Asked → ℕ → Side → Side → Report → Type 0
Reports (list asked) now before after report = ReportsList asked now before after report
Reports (stage asked) now before after report = ReportsStage asked before after report
Reports (compare asked) now before after report = ReportsCompare asked before after report
Reports (copy asked) now before after report = ReportsCopy asked before after report
Reports (sync asked) now before after report = ReportsSync asked before after report
Reports (dup asked) now before after report = ReportsDup asked before after report
Reports (remove asked) now before after report = ReportsRemove asked now before after report
Reports (test asked) now before after report = ReportsTest asked now report

-- why it stops before it prints a report
abbrev pub Stops : Asked → Side → Side → Stop → Type 0
Stops (list asked) before after why = StopsList asked before after why
Stops (stage asked) before after why = StopsStage asked before after why
Stops (compare asked) before after why = StopsCompare asked before after why
Stops (copy asked) before after why = StopsCopy asked before after why
Stops (sync asked) before after why = StopsSync asked before after why
Stops (dup asked) before after why = StopsDup asked before after why
Stops (remove asked) before after why = StopsRemove asked before after why
Stops (test asked) before after why = StopsTest why

-- which paths of the files it may have changed, whatever it answers
abbrev pub Leaves : Asked → ℕ → Side → Side → Type 0
Leaves (list asked) now before after = LeavesList asked before.tree after.tree
Leaves (stage asked) now before after = LeavesStage asked before.tree after.tree
Leaves (compare asked) now before after = LeavesCompare asked before.tree after.tree
Leaves (copy asked) now before after = LeavesCopy asked before after
Leaves (sync asked) now before after = LeavesSync asked before.tree after.tree
Leaves (dup asked) now before after = LeavesDup before.tree after.tree
Leaves (remove asked) now before after = LeavesRemove asked now before after
Leaves (test asked) now before after = LeavesTest before.tree after.tree

-- whether it has nothing to do with the files that it is given
abbrev pub is_apart : Asked → Bool
is_apart (list asked) = false
is_apart (stage asked) = false
is_apart (compare asked) = false
is_apart (copy asked) = false
is_apart (sync asked) = false
is_apart (dup asked) = false
is_apart (remove asked) = false
is_apart (test asked) = true

-- when nothing stands against it
abbrev pub Fine : Asked → ℕ → Side → Side → Type 0
Fine (list asked) now before after = FineList asked before after
Fine (stage asked) now before after = FineStage asked before after
Fine (compare asked) now before after = FineCompare asked before after
Fine (copy asked) now before after = FineCopy asked before after
Fine (sync asked) now before after = FineSync asked before after
Fine (dup asked) now before after = FineDup asked before after
Fine (remove asked) now before after = FineRemove asked now before after
Fine (test asked) now before after = FineTest asked

-- whether its words say that it stops of itself
abbrev pub may_stop : Asked → Bool
may_stop (list asked) = false
may_stop (stage asked) = is_some asked.stop_after
may_stop (compare asked) = false
may_stop (copy asked) = false
may_stop (sync asked) = false
may_stop (dup asked) = false
may_stop (remove asked) = false
may_stop (test asked) = false

-- it stops for want of memory, or of itself, with a checkpoint
abbrev pub EndsInTime : Asked → Stop → Type 0
EndsInTime asked why = (why ≡ stop.OutOfMemory) ⊎ ((may_stop asked ≡ true) × ((handled left : ℕ) × (why ≡ stop.Stopped handled left)))

-- where nothing stands against it, what it reports names nothing, and it stops for no other reason
pub record RunSucceeds (asked : Asked) (now : ℕ) (before after : Side) : Type 0 where
  pub names_nothing : (report : Report) → Reports asked now before after report → report.failed ≡ 0
  pub ends_in_time : (why : Stop) → Stops asked before after why → EndsInTime asked why

abbrev pub FineRunsSucceed : Type 0
FineRunsSucceed = (asked : Asked) (now : ℕ) (before after : Side) → Within asked → Fine asked now before after → RunSucceeds asked now before after

-- how it ends then: all is done, or memory is wanting, or it stopped as its words say
abbrev pub EndedWell : Asked → Status → Type 0
EndedWell asked answer = (answer ≡ status.Done) ⊎ ((answer ≡ status.Memory) ⊎ ((may_stop asked ≡ true) × (answer ≡ status.Stopped)))
