-- The work of dcmp: its report, the reasons to stop, the paths that it may have changed, and when nothing is in its way. The tool is
-- mpiFileUtils'; the texts, notes and statuses are our own.
use Rattle.std.specs.Prelude.{◌≡◌, ◌⊎◌, ℕ, ◌≤◌, true, false, List, [], ◌∷◌, ◌++◌, length, map, Option, All}
use Rattle.outside.specs.Count.{RoseBy}
use Rattle.outside.specs.Tree.{Files}
use Rattle.outside.specs.Whole.{can_save}
use Rattle.entry_pages.specs.declared.entries.Entry.{Entry}
use Rattle.tree_cmp.specs.declared.rows.Missed.{Missed}
use Rattle.tree_cmp.specs.Rows.{Findings, IsComparison}
use Rattle.tree_cmp.specs.Sides.{side}
use Rattle.tool_text.specs.declared.noting.Note.{Note}
use Rattle.tool_text.specs.declared.noting.Why.{Why}
use Rattle.tool_text.specs.declared.noting.Why.TheVariants as why
use Rattle.tool_text.specs.Notes.{note_lines}
use Rattle.tool_text.specs.NoteOrder.{AreInOrder}
use Rattle.tool_text.specs.Rows.{rows_text}
use Rattle.tool_words.specs.Asked.{CompareAsked, roots}
use Rattle.run_report.specs.declared.reports.Report.{Report}
use Rattle.run_report.specs.declared.stops.Stop.{Stop}
use Rattle.run_report.specs.declared.stops.Stop.TheVariants as stop
use Rattle.run_report.specs.Sides.{Side, side_with}
use Rattle.run_entries.specs.declared.saving.Output.{Output}
use Rattle.run_entries.specs.Both.{WalksBoth, StopsEitherWalk}
use Rattle.run_entries.specs.Fine.{IsFineSide}
use Rattle.run_entries.specs.Naming.{failures_of}
use Rattle.run_entries.specs.Saving.{Saved, SameButOutputs}
use Rattle.run_entries.specs.Stopping.{StopsSaving}
use Rattle.compare_report.specs.declared.comparing.CompareTask.{CompareTask}
use Rattle.compare_report.specs.Outputs.{AreOutputs}

-- the request of a task
abbrev pub compare_asked : CompareTask → CompareAsked
compare_asked task = record { common = task.common; left = task.left; right = task.right; wants = task.wants.items }

-- and then they were compared, over the same files, which counted each read that failed
pub record Compares (asked : CompareAsked) (left right : List Entry) (found : Findings) (before after : Side) : Type 0 where
  pub walked : ℕ
  pub walks : WalksBoth asked.left asked.right left right before (side_with before.tree walked)
  pub compared : IsComparison before.tree (side asked.left left) (side asked.right right) found
  pub counted : RoseBy (length found.failed) walked after.count

-- the notes of files that were to be read
abbrev pub missed_notes : Why → List Missed → List Note
missed_notes reason missed = map (λ m. record { path = m.path; why = reason; dest = m.dest }) missed

-- the notes of all failures: the reads that failed or showed a change, and the entries of both walks, those of the destination as such
abbrev pub compare_failures : List Entry → List Entry → Findings → List Note
compare_failures left right found =
    failures_of (missed_notes why.FailedRead found.failed ++ missed_notes why.Changed found.changed)
    (record { entries = left; dest = false } ∷ record { entries = right; dest = true } ∷ [])

-- its report: the findings, of which the wanted lists are saved, and their two texts. These are the rows with their counts, and the
-- notes
pub record ReportsCompare (asked : CompareAsked) (before after : Side) (report : Report) : Type 0 where
  pub left : List Entry
  pub right : List Entry
  pub found : Findings
  pub compared : ℕ
  pub compares : Compares asked left right found before (side_with before.tree compared)
  -- it saves after it has compared
  pub later : compared ≤ after.count
  pub outputs : List Output
  pub are : AreOutputs asked.wants found.rows asked.left asked.right left right outputs
  pub saved : Saved outputs before.tree after.tree
  pub notes : List Note
  pub names : AreInOrder (compare_failures left right found) notes
  pub prints : report.out ≡ rows_text found.rows (length notes)
  pub tells : report.notes ≡ note_lines notes
  pub counts : report.failed ≡ length notes

-- not all that is wanted was saved, though all was walked and compared before
pub record StopsAfterComparing (asked : CompareAsked) (before after : Side) (why : Stop) : Type 0 where
  pub left : List Entry
  pub right : List Entry
  pub found : Findings
  pub compared : ℕ
  pub compares : Compares asked left right found before (side_with before.tree compared)
  pub outputs : List Output
  pub are : AreOutputs asked.wants found.rows asked.left asked.right left right outputs
  pub later : compared ≤ after.count
  pub stops : StopsSaving outputs (side_with before.tree compared) after why

-- why it stops. It is out of memory. Or a walk was too long, that of the source or then that of the destination, and the files are
-- as before. Or a list was not saved
abbrev pub StopsCompare : CompareAsked → Side → Side → Stop → Type 0
StopsCompare asked before after why =
    (why ≡ stop.OutOfMemory)
    ⊎ ((StopsEitherWalk asked.left asked.right before after why × (after.tree ≡ before.tree)) ⊎ StopsAfterComparing asked before after why)

-- the paths that it may have changed: the files that are to be written, and no other
abbrev pub LeavesCompare : CompareAsked → Option Files → Option Files → Type 0
LeavesCompare asked old new = SameButOutputs (map (λ want. want.file) asked.wants) old new

-- when nothing is in its way: each side is fine, and there is a place for each file that is to be written
pub record FineCompare (asked : CompareAsked) (before after : Side) : Type 0 where
  pub source : IsFineSide (roots (asked.left ∷ [])) before after
  pub destination : IsFineSide (roots (asked.right ∷ [])) before after
  pub places : All (λ want. can_save source.files want.file ≡ true) asked.wants
