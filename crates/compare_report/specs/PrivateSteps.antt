-- The comparison before its lists are saved. Our own. Only clauses of this crate's own functions cite this file.
use Rattle.std.specs.Prelude.{◌≡◌, List, length}
use Rattle.entry_pages.specs.declared.entries.Entry.{Entry}
use Rattle.tree_cmp.specs.Rows.{Findings}
use Rattle.tool_text.specs.declared.noting.Note.{Note}
use Rattle.tool_text.specs.NoteOrder.{AreInOrder}
use Rattle.tool_text.specs.Notes.{note_lines}
use Rattle.tool_text.specs.Rows.{rows_text}
use Rattle.tool_words.specs.Asked.{CompareAsked}
use Rattle.run_report.specs.Sides.{Side, side_with}
use Rattle.compare_report.specs.declared.comparing.Prepared.{Prepared}
use Rattle.compare_report.specs.Comparing.{Compares, compare_failures}
use Rattle.compare_report.specs.Outputs.{AreOutputs}

-- both sides were walked and compared; the report has the two texts of that, and the outputs are the lists to save
pub record IsPrepared (asked : CompareAsked) (before after : Side) (ready : Prepared) : Type 0 where
  pub left : List Entry
  pub right : List Entry
  pub found : Findings
  pub compares : Compares asked left right found before (side_with before.tree after.count)
  pub are : AreOutputs asked.wants found.rows asked.left asked.right left right ready.outputs.items
  pub notes : List Note
  pub names : AreInOrder (compare_failures left right found) notes
  pub prints : ready.report.out ≡ rows_text found.rows (length notes)
  pub tells : ready.report.notes ≡ note_lines notes
  pub counts : ready.report.failed ≡ length notes
