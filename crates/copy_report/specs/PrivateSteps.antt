-- The words of the steps of dcp. Only the contracts of this crate's own parts cite it.
use Rattle.std.specs.Prelude.{⊤, ◌≡◌, ◌⊎◌, ℕ, true, false, List, length, map, Option, IfSome, All, Err}
use Rattle.std.specs.FinMap.{get}
use Rattle.std.specs.List.{count_by}
use Rattle.path_text.specs.Path.{parent_of}
use Rattle.outside.specs.Count.{RoseBy}
use Rattle.outside.specs.Tree.{Files, is_dir}
use Rattle.entry_pages.specs.declared.entries.Entry.{Entry}
use Rattle.level_work.specs.declared.items.Fate.{Fate}
use Rattle.level_work.specs.Counts.{is_done}
use Rattle.tree_copy.specs.Copying.{CanCopy, FitsTree, bytes_copied, ends_of, treated}
use Rattle.tree_copy.specs.Placing.{IsPair, overlap}
use Rattle.tree_copy.specs.declared.pairs.Pair.{Pair}
use Rattle.tree_copy.specs.declared.pairs.PlaceError.{PlaceError}
use Rattle.tree_copy.specs.declared.pairs.PlaceError.TheVariants as place
use Rattle.tool_text.specs.declared.noting.Note.{Note}
use Rattle.tool_text.specs.Notes.{note_lines}
use Rattle.tool_text.specs.NoteOrder.{AreInOrder}
use Rattle.run_report.specs.declared.reports.Report.{Report}
use Rattle.run_report.specs.Sides.{Side}
use Rattle.copy_report.specs.Copying.{Copies, copied_line, copy_failures}
use Rattle.copy_report.specs.Placing.{Places}

-- targets for which the sources can be walked
pub record ArePlaced (given : List (List ℕ)) (tree : Option Files) (pairs : List Pair) : Type 0 where
  pub sources : map (λ pair. pair.source) pairs ≡ given
  pub valid : All IsPair pairs
  pub apart : overlap (ends_of pairs) ≡ false
  pub stand : IfSome tree (λ files. All (λ pair. is_dir (get files (parent_of pair.target)) ≡ true) pairs)

-- the entries can be copied to their targets, over the tree too, if the files tell one
pub record CanBeCopied (entries : List Entry) (pairs : List Pair) (tree : Option Files) : Type 0 where
  pub can : CanCopy entries pairs
  pub fits : IfSome tree (FitsTree entries pairs)

-- why no targets were placed
abbrev pub StopsPlacing : List (List ℕ) → List ℕ → Side → Side → PlaceError → Type 0
StopsPlacing sources dest before after place.Overlap = Places sources dest before.tree (Err place.Overlap)
StopsPlacing sources dest before after place.NoDest = Places sources dest before.tree (Err place.NoDest)
StopsPlacing sources dest before after (place.Failed path) = ((path ≡ dest) ⊎ (path ≡ parent_of dest)) × RoseBy 1 before.count after.count
StopsPlacing sources dest before after place.OutOfMemory = ⊤

-- the report of a copy: the fates of the entries, the line of the numbers, and the notes of the walk and of the copies
pub record TellsCopies (pairs : List Pair) (entries : List Entry) (before after : Side) (report : Report) : Type 0 where
  pub rows : List (List ℕ × Fate)
  pub copies : Copies pairs entries rows before after
  pub notes : List Note
  pub names : AreInOrder (copy_failures entries rows) notes
  pub prints : report.out ≡ copied_line (count_by (λ row. is_done row.1) rows) (length (treated entries)) (bytes_copied entries rows) (length notes)
  pub tells : report.notes ≡ note_lines notes
  pub counts : report.failed ≡ length notes
