-- The work of dcp: its report, the reasons to stop, the paths that it may have changed, and the case in which nothing is in its way.
-- After mpiFileUtils' dcp; the texts are our own.
use Rattle.std.specs.Prelude.{◌≡◌, ◌⊎◌, ℕ, ◌≤◌, false, List, [], ◌∷◌, ◌++◌, length, map, codes, All, Ok, IfSome, is_some}
use Rattle.std.specs.Fmt.{decimal}
use Rattle.std.specs.List.{flat_map, count_by}
use Rattle.path_text.specs.Path.{parent_of}
use Rattle.outside.specs.Count.{RoseBy}
use Rattle.entry_pages.specs.declared.entries.Entry.{Entry}
use Rattle.flat_list.specs.Spelling.{paths}
use Rattle.level_work.specs.Counts.{is_failed, is_done}
use Rattle.level_work.specs.declared.items.Fate.{Fate}
use Rattle.tree_copy.specs.Copying.{AreEarly, Copied, SameButTargets, bytes_copied, treated}
use Rattle.tree_copy.specs.Laws.{IsFineEntry}
use Rattle.tree_copy.specs.Placing.{placed_over}
use Rattle.tree_copy.specs.declared.pairs.Pair.{Pair}
use Rattle.tree_walk.specs.Walk.{walk, all_told}
use Rattle.tool_text.specs.declared.noting.Note.{Note}
use Rattle.tool_text.specs.declared.noting.Why.TheVariants as why
use Rattle.tool_text.specs.Notes.{note_lines}
use Rattle.tool_text.specs.NoteOrder.{AreInOrder}
use Rattle.tool_words.specs.Asked.{CopyAsked, roots}
use Rattle.run_report.specs.declared.reports.Report.{Report}
use Rattle.run_report.specs.declared.stops.Stop.{Stop}
use Rattle.run_report.specs.declared.stops.Stop.TheVariants as stop
use Rattle.run_report.specs.Sides.{Side, side_with}
use Rattle.run_entries.specs.Fine.{IsFineSide}
use Rattle.run_entries.specs.Naming.{copy_notes, listing_notes}
use Rattle.run_entries.specs.Stopping.{StopsListing}
use Rattle.copy_report.specs.declared.task.CopyTask.{CopyTask}
use Rattle.copy_report.specs.Placing.{Places, Surveys, IsNowhere}

-- the parts of a task
abbrev pub copy_asked : CopyTask → CopyAsked
copy_asked task = record { common = task.common; sources = task.sources.items; dest = task.dest; range = task.range }

-- the line of the number of copied entries, of all entries, of the bytes of the copied files, and of the notes
abbrev pub copied_line : (copied items bytes failed : ℕ) → List ℕ
copied_line copied items bytes failed =
    codes "copied " ++ decimal copied ++ codes " items " ++ decimal items ++ codes " bytes " ++ decimal bytes ++ codes " failed " ++ decimal failed ++ 10 ∷ []

-- all that is to be named: the entries of the walk, and the fates of the copies
abbrev pub copy_failures : List Entry → List (List ℕ × Fate) → List Note
copy_failures entries rows = listing_notes (record { entries = entries; dest = false }) ++ copy_notes rows

-- it copied the entries, and no answer that failed is left uncounted
pub record Copies (pairs : List Pair) (entries : List Entry) (rows : List (List ℕ × Fate)) (before after : Side) : Type 0 where
  pub paths : map (λ row. row.0) rows ≡ paths (treated entries)
  -- over all files each entry that can't be copied has its fate
  pub early : AreEarly entries pairs rows
  pub tells : is_some after.tree ≡ is_some before.tree
  -- and if they show their tree, each entry has its fate, which describes the node at its target
  pub copied : IfSome before.tree (λ old. IfSome after.tree (Copied entries pairs rows old))
  pub blamed : RoseBy (count_by (λ row. is_failed row.1) rows) before.count after.count

-- its report if the targets were placed: the fates of the walked entries, the line of the numbers, and the notes of the walk and of
-- the copies
pub record ReportsCopies (asked : CopyAsked) (before after : Side) (report : Report) : Type 0 where
  pub pairs : List Pair
  pub entries : List Entry
  pub found : ℕ
  pub surveys : Surveys asked before (side_with before.tree found) pairs entries
  pub rows : List (List ℕ × Fate)
  pub copies : Copies pairs entries rows (side_with before.tree found) after
  pub notes : List Note
  pub names : AreInOrder (copy_failures entries rows) notes
  pub prints : report.out ≡ copied_line (count_by (λ row. is_done row.1) rows) (length (treated entries)) (bytes_copied entries rows) (length notes)
  pub tells : report.notes ≡ note_lines notes
  pub counts : report.failed ≡ length notes

-- its report if they were not, since the look at the destination or at its parent failed: nothing was walked or copied
pub record ReportsFailedLook (asked : CopyAsked) (before after : Side) (report : Report) : Type 0 where
  pub path : List ℕ
  pub which : (path ≡ asked.dest) ⊎ (path ≡ parent_of asked.dest)
  pub same : after.tree ≡ before.tree
  pub blamed : RoseBy 1 before.count after.count
  pub prints : report.out ≡ copied_line 0 0 0 1
  pub tells : report.notes ≡ note_lines (record { path = path; why = why.FailedStat; dest = false } ∷ [])
  pub counts : report.failed ≡ 1

abbrev pub ReportsCopy : CopyAsked → Side → Side → Report → Type 0
ReportsCopy asked before after report = ReportsFailedLook asked before after report ⊎ ReportsCopies asked before after report

-- the targets were placed, and then the walk did not come to its end
pub record StopsWalking (asked : CopyAsked) (before after : Side) (why : Stop) : Type 0 where
  pub pairs : List Pair
  pub places : Places asked.sources asked.dest before.tree (Ok pairs)
  pub between : ℕ
  pub kept : before.count ≤ between
  pub later : between ≤ after.count
  pub stops : StopsListing (roots asked.sources) (side_with before.tree between) after why

-- why it stops: it is out of memory; or the sources have no targets or the walk was too long, and the files are as before
abbrev pub StopsCopy : CopyAsked → Side → Side → Stop → Type 0
StopsCopy asked before after why =
    (why ≡ stop.OutOfMemory) ⊎ ((IsNowhere asked before.tree why ⊎ StopsWalking asked before after why) × (after.tree ≡ before.tree))

-- every path but the targets is as before
pub record LeavesAllOthers (asked : CopyAsked) (before after : Side) : Type 0 where
  pub pairs : List Pair
  pub entries : List Entry
  pub found : ℕ
  pub surveys : Surveys asked before (side_with before.tree found) pairs entries
  pub tells : is_some after.tree ≡ is_some before.tree
  pub others : IfSome before.tree (λ old. IfSome after.tree (SameButTargets pairs entries old))

-- the paths that it may have changed: none, or the targets alone. This holds whatever it answers
abbrev pub LeavesCopy : CopyAsked → Side → Side → Type 0
LeavesCopy asked before after = (after.tree ≡ before.tree) ⊎ LeavesAllOthers asked before after

-- nothing is in its way: the side is fine, the sources have targets, and each entry of the walk can be copied
pub record FineCopy (asked : CopyAsked) (before after : Side) : Type 0 where
  pub side : IsFineSide (roots asked.sources) before after
  pub pairs : List Pair
  pub places : placed_over side.files asked.dest asked.sources ≡ Ok pairs
  pub entries : All (IsFineEntry side.files pairs) (flat_map (walk side.files all_told) side.fine.roots)
