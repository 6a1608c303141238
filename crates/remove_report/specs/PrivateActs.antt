-- The report of a removal. Only clauses of this crate's own functions cite this file.
use Rattle.std.specs.Prelude.{◌≡◌, ℕ, Bool, List, ◌++◌, length, Option, IfSome}
use Rattle.std.specs.List.{count_by}
use Rattle.outside.specs.Tree.{Files}
use Rattle.entry_pages.specs.declared.entries.Entry.{Entry}
use Rattle.level_work.specs.declared.items.Fate.{Fate}
use Rattle.level_work.specs.Counts.{is_done}
use Rattle.tree_remove.specs.Removing.{AreChosen, AreThere}
use Rattle.tool_text.specs.Lines.{lines_of}
use Rattle.tool_text.specs.declared.noting.Note.{Note}
use Rattle.tool_text.specs.Notes.{note_lines}
use Rattle.tool_text.specs.NoteOrder.{AreInOrder}
use Rattle.run_report.specs.declared.reports.Report.{Report}
use Rattle.run_report.specs.Sides.{Side}
use Rattle.run_entries.specs.Naming.{removal_notes}
use Rattle.remove_report.specs.Choosing.{Acts}
use Rattle.remove_report.specs.Removing.{removed_line}

-- the entries can be removed from the tree, if the files tell one
pub record CanBeRemoved (entries : List Entry) (tree : Option Files) : Type 0 where
  pub chosen : AreChosen entries
  pub there : IfSome tree (AreThere entries)

-- the fates of the chosen entries, and the two texts; `named` are the notes of the failures before
pub record TellsRemovals (dryrun : Bool) (chosen : List Entry) (named : List Note) (before after : Side) (report : Report) : Type 0 where
  pub rows : List (List ℕ × Fate)
  pub acts : Acts dryrun chosen rows before after
  pub notes : List Note
  pub names : AreInOrder (named ++ removal_notes rows) notes
  pub prints : report.out ≡ lines_of chosen ++ removed_line (count_by (λ row. is_done row.1) rows) (length chosen) (length notes)
  pub tells : report.notes ≡ note_lines notes
  pub counts : report.failed ≡ length notes
