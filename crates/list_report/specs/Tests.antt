-- The work of dtest: its report, the reasons to stop, the paths that it may have changed, and when nothing is in its way. A walk of a
-- made-up tree is libcircle's own benchmark (LaFon et al., SC 2012); the rest is our own.
use Rattle.std.specs.Prelude.{◌≡◌, ℕ, List, [], ◌∷◌, length, codes, Option, Some}
use Rattle.outside.specs.Tree.{Files}
use Rattle.entry_pages.specs.declared.entries.Entry.{Entry}
use Rattle.test_tree.specs.Nodes.{test_files}
use Rattle.tool_text.specs.declared.noting.Note.{Note}
use Rattle.tool_words.specs.Asked.{TestAsked, roots, choice_in}
use Rattle.run_report.specs.declared.reports.Report.{Report}
use Rattle.run_report.specs.declared.stops.Stop.{Stop}
use Rattle.run_report.specs.declared.stops.Stop.TheVariants as stop
use Rattle.run_report.specs.Sides.{Side, side_with}
use Rattle.run_entries.specs.declared.accounts.Account.{Account}
use Rattle.run_entries.specs.Entries.{Finds, notes_text}
use Rattle.run_entries.specs.Fine.{AreThere}
use Rattle.list_report.specs.declared.made.TestTask.{TestTask}
use Rattle.list_report.specs.Lists.{summary_text}

-- the request of a task
abbrev pub test_asked : TestTask → TestAsked
test_asked task = record { common = task.common; nodes = task.nodes; choice = choice_in task.tests }

-- the path that a made-up tree is walked from: its first node
abbrev pub made_root : List ℕ
made_root = codes "/n0"

-- the side of a made-up tree of so many nodes, which never fails
abbrev pub made_side : ℕ → Side
made_side nodes = side_with (Some (test_files nodes)) 0

-- its report: the findings in its made-up tree, and their two texts, the summary of the chosen entries alone, and the notes
pub record ReportsTest (asked : TestAsked) (now : ℕ) (report : Report) : Type 0 where
  pub chosen : List Entry
  pub notes : List Note
  pub account : Account
  pub finds : Finds asked.common (roots (made_root ∷ [])) (Some asked.choice) now (made_side asked.nodes) (made_side asked.nodes) chosen notes account
  pub prints : report.out ≡ summary_text chosen (length notes)
  pub tells : report.notes ≡ notes_text asked.common account notes
  pub counts : report.failed ≡ length notes

-- why it stops: for want of memory alone
abbrev pub StopsTest : Stop → Type 0
StopsTest why = why ≡ stop.OutOfMemory

-- the paths that it may have changed: none
abbrev pub LeavesTest : Option Files → Option Files → Type 0
LeavesTest old new = new ≡ old

-- when nothing stands against it: the made-up tree is fine, so that something is at each path that is looked at is all
abbrev pub FineTest : TestAsked → Type 0
FineTest asked = AreThere (test_files asked.nodes) (Some asked.choice)
