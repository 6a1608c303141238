-- The work of dwalk and dfind: their report, the reasons to stop, the paths that they may have changed, and when nothing is in their
-- way. The tools are mpiFileUtils'; the texts and statuses are our own.
use Rattle.std.specs.Prelude.{◌≡◌, ◌⊎◌, ℕ, ◌≤◌, ◌++◌, List, length, Option, IfSome, true}
use Rattle.std.specs.Option.{option_map, option_to_list}
use Rattle.outside.specs.Tree.{Files}
use Rattle.outside.specs.Whole.{can_save}
use Rattle.entry_pages.specs.declared.entries.Entry.{Entry}
use Rattle.entry_pages.specs.Entries.{summary_of}
use Rattle.tool_text.specs.Lines.{lines_of, summary_line}
use Rattle.tool_text.specs.declared.noting.Note.{Note}
use Rattle.tool_words.specs.Asked.{ListAsked, start_in, choice_in}
use Rattle.run_report.specs.declared.reports.Report.{Report}
use Rattle.run_report.specs.declared.stops.Stop.{Stop}
use Rattle.run_report.specs.declared.stops.Stop.TheVariants as stop
use Rattle.run_report.specs.Sides.{Side, side_with}
use Rattle.run_entries.specs.declared.accounts.Account.{Account}
use Rattle.run_entries.specs.Entries.{Finds, InOrder, notes_text}
use Rattle.run_entries.specs.Saving.{Saved, output_of, SameButOutputs}
use Rattle.run_entries.specs.Stopping.{StopsAfterLooks, StopsAfterListing}
use Rattle.run_entries.specs.Fine.{IsFineSide, AreThere}
use Rattle.list_report.specs.declared.task.ListTask.{ListTask}

-- the request of a task
abbrev pub list_asked : ListTask → ListAsked
list_asked task = record { common = task.common; start = start_in task.start; chosen = option_map choice_in task.tests; sort = task.sort; output = task.output }

-- the line of the summary of the chosen entries, with the number of failures
abbrev pub summary_text : List Entry → ℕ → List ℕ
summary_text chosen failed = summary_line (record (summary_of chosen) { failed = failed })

-- its report: the findings, which are saved if that is asked for, and their two texts. These are the lines of the chosen entries and
-- their summary, and the notes
pub record ReportsList (asked : ListAsked) (now : ℕ) (before after : Side) (report : Report) : Type 0 where
  pub chosen : List Entry
  pub notes : List Note
  pub account : Account
  pub found : ℕ
  pub finds : Finds asked.common asked.start asked.chosen now before (side_with before.tree found) chosen notes account
  -- it saves after it has found
  pub later : found ≤ after.count
  pub saved : Saved (output_of asked.output chosen) before.tree after.tree
  pub printed : List Entry
  pub order : InOrder asked.sort chosen printed
  pub prints : report.out ≡ lines_of printed ++ summary_text chosen (length notes)
  pub tells : report.notes ≡ notes_text asked.common account notes
  pub counts : report.failed ≡ length notes

-- why it stops. It is out of memory. Or the entries were not listed, and the files are as before. Or they were listed, and could not
-- be saved
abbrev pub StopsList : ListAsked → Side → Side → Stop → Type 0
StopsList asked before after why =
    (why ≡ stop.OutOfMemory)
    ⊎ ((StopsAfterLooks asked.start asked.chosen before after why × (after.tree ≡ before.tree))
    ⊎ StopsAfterListing asked.start asked.chosen asked.output before after why)

-- the paths that it may have changed: the file that is to be written, and no other
abbrev pub LeavesList : ListAsked → Option Files → Option Files → Type 0
LeavesList asked old new = SameButOutputs (option_to_list asked.output) old new

-- when nothing is in its way: the side is fine, something is at each path that is looked at, and there is a place for the list
pub record FineList (asked : ListAsked) (before after : Side) : Type 0 where
  pub side : IsFineSide asked.start before after
  pub there : AreThere side.files asked.chosen
  pub place : IfSome asked.output (λ path. can_save side.files path ≡ true)
