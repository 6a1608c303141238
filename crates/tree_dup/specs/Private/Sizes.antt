-- The sizes that files share. Our own.
-- Only clauses of this crate's own functions cite this file.
use Rattle.std.specs.Prelude.{◌≡◌, ℕ, List, Option, Some, None, if◌then◌else◌, min, nat_eq, unwrap_or}
use Rattle.std.specs.List.{count_by}
use Rattle.std.specs.HashMap.{get, HashMap}
use Rattle.std.specs.declared.hash.FoldHasher.{FoldHasher}
use Rattle.std.specs.declared.hash.BuildHasherDefault.{BuildHasherDefault}
use Rattle.outside.specs.declared.trees.Kind.TheVariants as kind
use Rattle.entry_pages.specs.declared.entries.Entry.{Entry}
use Rattle.entry_pages.specs.Entries.{is_of, size_by}
use Rattle.tree_dup.specs.Grouping.{is_sized, is_candidate}

-- of a file its size
abbrev pub file_size : Entry → Option ℕ
file_size e = if is_of kind.File e.stat then Some (size_by e.stat) else None

-- of a candidate its size
abbrev pub candidate_size : List Entry → Entry → Option ℕ
candidate_size list e = if is_candidate list e then Some (size_by e.stat) else None

-- how many files of a size were counted
abbrev pub counted : HashMap ℕ ℕ (BuildHasherDefault FoldHasher) → ℕ → ℕ
counted counts size = unwrap_or (get nat_eq counts size) 0

-- the counts are those of the files of some entries, where 255 is the most
abbrev pub AreCounts : List Entry → HashMap ℕ ℕ (BuildHasherDefault FoldHasher) → Type 0
AreCounts list counts = (size : ℕ) → counted counts size ≡ min (count_by (is_sized size) list) 255
