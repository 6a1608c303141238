-- The shape of an entry, and the summary of a list. Our own, after mpiFileUtils' flat lists and the summary of its dwalk.
use Rattle.std.specs.Prelude.{ℕ, ◌+◌, Bool, true, false, ◌&&◌, ◌||◌, List, Option, Some, None, is_some, is_none, ◌==◌, if◌then◌else◌}
use Rattle.std.specs.List.{sum_by, count_by}
use Rattle.outside.specs.declared.trees.Kind.{Kind}
use Rattle.outside.specs.declared.trees.Kind.TheVariants as kind
use Rattle.outside.specs.declared.trees.Stat.{Stat}
use Rattle.entry_pages.specs.declared.entries.Entry.{Entry}
use Rattle.entry_pages.specs.declared.entries.Mark.{Mark}
use Rattle.entry_pages.specs.declared.entries.Mark.TheVariants as mark
use Rattle.entry_pages.specs.declared.summaries.Summary.{Summary}

-- whether a stat is of this kind
abbrev pub is_kind : Kind → Kind → Bool
is_kind kind.File kind.File = true
is_kind kind.Dir kind.Dir = true
is_kind kind.Link kind.Link = true
is_kind kind.Other kind.Other = true
is_kind k l = false

abbrev pub is_of : Kind → Option Stat → Bool
is_of k None = false
is_of k (Some stat) = is_kind k stat.kind

abbrev pub size_by : Option Stat → ℕ
size_by None = 0
size_by (Some stat) = stat.size

-- a stat whose size is 0 unless it is a file's
abbrev pub is_sized : Option Stat → Bool
is_sized stat = is_of kind.File stat || size_by stat == 0

-- the shape of an entry, by its mark. If the stat failed or nothing was there, it has no stat. If the reading of its names
-- failed it is a directory, and if it changed a directory or a link; then it has no numbers. Only a directory has numbers
abbrev pub shape_by : Mark → Option Stat → Bool → Bool
shape_by mark.StatFailed stat none = is_none stat && none
shape_by mark.Gone stat none = is_none stat && none
shape_by mark.ListFailed stat none = is_of kind.Dir stat && none
shape_by mark.Changed stat none = (is_of kind.Dir stat || is_of kind.Link stat) && none
shape_by mark.Fine stat none = is_some stat && (is_of kind.Dir stat || none)

-- an entry may have a target: that of a link of which each call was answered
abbrev pub is_fine : Mark → Bool
is_fine mark.Fine = true
is_fine mark.StatFailed = false
is_fine mark.ListFailed = false
is_fine mark.Gone = false
is_fine mark.Changed = false

abbrev pub has_target : Mark → Option Stat → Bool
has_target m stat = is_of kind.Link stat && is_fine m

abbrev pub is_shaped : Entry → Bool
is_shaped e = (is_none e.target || has_target e.mark e.stat) && (is_sized e.stat && shape_by e.mark e.stat (e.unnamed == 0 && e.far == 0))

-- how many notes an entry has: one for a mark that is not fine, one for unnamed names, one for children whose path is too long
abbrev pub mark_notes : Mark → ℕ
mark_notes mark.Fine = 0
mark_notes mark.StatFailed = 1
mark_notes mark.ListFailed = 1
mark_notes mark.Gone = 1
mark_notes mark.Changed = 1

abbrev pub note_count : Entry → ℕ
note_count e = mark_notes e.mark + (if e.unnamed == 0 then 0 else 1) + (if e.far == 0 then 0 else 1)

-- the bytes of a file, and 0 for all else
abbrev pub bytes_by : Option Stat → ℕ
bytes_by None = 0
bytes_by (Some stat) = if is_kind kind.File stat.kind then stat.size else 0

-- the entries with a stat, by kind, the bytes of the files, and the notes
abbrev pub summary_of : List Entry → Summary
summary_of entries = record {
  items = count_by (λ e. is_some e.stat) entries;
  dirs = count_by (λ e. is_of kind.Dir e.stat) entries;
  files = count_by (λ e. is_of kind.File e.stat) entries;
  links = count_by (λ e. is_of kind.Link e.stat) entries;
  others = count_by (λ e. is_of kind.Other e.stat) entries;
  bytes = sum_by (λ e. bytes_by e.stat) entries;
  failed = sum_by note_count entries;
}
