-- The work of drm: its report, the reasons to stop, the paths that it may have changed, and when nothing is in its way. The tool is
-- mpiFileUtils'; the texts, notes and statuses are our own.
use Rattle.std.specs.Prelude.{◌≡◌, ◌⊎◌, ℕ, Bool, true, false, List, [], ◌∷◌, ◌++◌, length, codes, Some}
use Rattle.std.specs.Fmt.{decimal}
use Rattle.std.specs.List.{count_by}
use Rattle.entry_pages.specs.declared.entries.Entry.{Entry}
use Rattle.level_work.specs.declared.items.Fate.{Fate}
use Rattle.level_work.specs.Counts.{is_done}
use Rattle.tool_text.specs.Lines.{lines_of}
use Rattle.tool_text.specs.declared.noting.Note.{Note}
use Rattle.tool_text.specs.Notes.{note_lines}
use Rattle.tool_text.specs.NoteOrder.{AreInOrder}
use Rattle.tool_words.specs.Asked.{RemoveAsked, roots, choice_in}
use Rattle.run_report.specs.declared.reports.Report.{Report}
use Rattle.run_report.specs.declared.stops.Stop.{Stop}
use Rattle.run_report.specs.declared.stops.Stop.TheVariants as stop
use Rattle.run_report.specs.Sides.{Side, side_with}
use Rattle.run_entries.specs.Fine.{IsFineSide, AreThere}
use Rattle.run_entries.specs.Naming.{removal_notes}
use Rattle.run_entries.specs.Stopping.{StopsAfterLooks}
use Rattle.remove_report.specs.declared.task.RemoveTask.{RemoveTask}
use Rattle.remove_report.specs.Choosing.{Chooses, Acts, LeavesAllOthers, ChoosesWhole}

-- the request of a task
abbrev pub remove_asked : RemoveTask → RemoveAsked
remove_asked task = record { common = task.common; roots = task.roots.items; choice = choice_in task.tests; dryrun = task.dryrun }

-- the line of how many of the chosen entries are gone, and of how many notes there are
abbrev pub removed_line : ℕ → ℕ → ℕ → List ℕ
removed_line removed chosen failed =
    codes "removed " ++ decimal removed ++ codes " of " ++ decimal chosen ++ codes " failed " ++ decimal failed ++ 10 ∷ []

-- its report: the chosen entries, their fates, and the two texts. These are a line for each chosen entry and the line of the numbers,
-- and the notes of the walk and of the removals
pub record ReportsRemove (asked : RemoveAsked) (now : ℕ) (before after : Side) (report : Report) : Type 0 where
  pub chosen : List Entry
  pub named : List Note
  pub found : ℕ
  pub chooses : Chooses asked now before (side_with before.tree found) chosen named
  pub rows : List (List ℕ × Fate)
  pub acts : Acts asked.dryrun chosen rows (side_with before.tree found) after
  pub notes : List Note
  pub names : AreInOrder (named ++ removal_notes rows) notes
  pub prints : report.out ≡ lines_of chosen ++ removed_line (count_by (λ row. is_done row.1) rows) (length chosen) (length notes)
  pub tells : report.notes ≡ note_lines notes
  pub counts : report.failed ≡ length notes

-- why it stops: it is out of memory; or the entries were not listed, and the files are as before
abbrev pub StopsRemove : RemoveAsked → Side → Side → Stop → Type 0
StopsRemove asked before after why =
    (why ≡ stop.OutOfMemory) ⊎ (StopsAfterLooks (roots asked.roots) (Some asked.choice) before after why × (after.tree ≡ before.tree))

-- the paths that it may have changed: with `--dryrun` none, and without it none, or the chosen paths alone. This holds whatever it
-- answers
abbrev pub LeavesBy : Bool → RemoveAsked → ℕ → Side → Side → Type 0
LeavesBy true asked now before after = after.tree ≡ before.tree
LeavesBy false asked now before after = (after.tree ≡ before.tree) ⊎ LeavesAllOthers asked now before after

abbrev pub LeavesRemove : RemoveAsked → ℕ → Side → Side → Type 0
LeavesRemove asked now before after = LeavesBy asked.dryrun asked now before after

-- when nothing is in its way: the side is fine, and something is at each path that is looked at. Unless it is a dry run, all paths
-- under a chosen path are chosen
pub record FineRemove (asked : RemoveAsked) (now : ℕ) (before after : Side) : Type 0 where
  pub side : IsFineSide (roots asked.roots) before after
  pub there : AreThere side.files (Some asked.choice)
  pub whole : asked.dryrun ≡ false → (chosen : List Entry) (named : List Note) (found : ℕ)
      → Chooses asked now before (side_with before.tree found) chosen named → ChoosesWhole side.files chosen
