-- The work of ddup: its report, the reasons to stop, that it changes nothing, and when nothing is in its way. Our own.
use Rattle.std.specs.Prelude.{◌≡◌, ◌⊎◌, ℕ, ◌≤◌, false, List, [], ◌∷◌, ◌++◌, length, Option}
use Rattle.outside.specs.Count.{RoseBy}
use Rattle.outside.specs.Tree.{Files}
use Rattle.entry_pages.specs.declared.entries.Entry.{Entry}
use Rattle.flat_list.specs.Spelling.{max_entries}
use Rattle.tree_dup.specs.Grouping.{IsGrouping}
use Rattle.tree_dup.specs.Told.{Grouping}
use Rattle.tool_text.specs.declared.noting.Note.{Note}
use Rattle.tool_text.specs.declared.noting.Why.TheVariants as why
use Rattle.tool_text.specs.Groups.{groups_text}
use Rattle.tool_text.specs.Notes.{note_lines}
use Rattle.tool_text.specs.NoteOrder.{AreInOrder}
use Rattle.tool_words.specs.Asked.{DupAsked, roots}
use Rattle.run_report.specs.declared.reports.Report.{Report}
use Rattle.run_report.specs.declared.stops.Stop.{Stop}
use Rattle.run_report.specs.declared.stops.Stop.TheVariants as stop
use Rattle.run_report.specs.Sides.{Side, side_with}
use Rattle.run_entries.specs.Entries.{Walked}
use Rattle.run_entries.specs.Fine.{IsFineSide}
use Rattle.run_entries.specs.Naming.{failures_of, path_notes}
use Rattle.run_entries.specs.Stopping.{StopsListing}
use Rattle.dup_report.specs.declared.grouping.DupTask.{DupTask}

-- the request of a task
abbrev pub dup_asked : DupTask → DupAsked
dup_asked task = record { common = task.common; roots = task.roots.items }

-- the roots were walked, and then the files of the walk were grouped, over the same files, which counted each read that failed
pub record FindsGroups (asked : DupAsked) (entries : List Entry) (found : Grouping) (before after : Side) : Type 0 where
  pub walked : ℕ
  pub walks : Walked asked.roots entries before (side_with before.tree walked)
  pub few : length entries ≤ max_entries
  pub grouped : IsGrouping before.tree entries found
  pub counted : RoseBy (length found.failed) walked after.count

-- the notes of all failures: the reads that failed or showed a change, and the entries of the walk
abbrev pub dup_failures : List Entry → Grouping → List Note
dup_failures entries found =
    failures_of (path_notes why.FailedRead found.failed ++ path_notes why.Changed found.changed) (record { entries = entries; dest = false } ∷ [])

-- its report: the findings, and their two texts, the groups with their numbers, and the notes
pub record ReportsDup (asked : DupAsked) (before after : Side) (report : Report) : Type 0 where
  pub entries : List Entry
  pub found : Grouping
  pub finds : FindsGroups asked entries found before after
  pub notes : List Note
  pub names : AreInOrder (dup_failures entries found) notes
  pub prints : report.out ≡ groups_text found.groups (length notes)
  pub tells : report.notes ≡ note_lines notes
  pub counts : report.failed ≡ length notes

-- why it stops: it is out of memory; or the walk was too long, and the files are as before
abbrev pub StopsDup : DupAsked → Side → Side → Stop → Type 0
StopsDup asked before after why = (why ≡ stop.OutOfMemory) ⊎ (StopsListing (roots asked.roots) before after why × (after.tree ≡ before.tree))

-- it changes nothing, whatever it answers
abbrev pub LeavesDup : Option Files → Option Files → Type 0
LeavesDup old new = new ≡ old

-- when nothing is in its way: the side is fine
abbrev pub FineDup : DupAsked → Side → Side → Type 0
FineDup asked before after = IsFineSide (roots asked.roots) before after
