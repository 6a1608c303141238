-- The choice of an entry that no other side gave. Only clauses of this crate's own functions cite this file.
use Rattle.std.specs.Prelude.{ℕ, Bool, not, ◌&&◌, List, nat_eq}
use Rattle.std.specs.Cmp.Lexicographic.{pointwise}
use Rattle.std.specs.List.{list_any}
use Rattle.entry_pages.specs.declared.entries.Entry.{Entry}
use Rattle.compare_report.specs.Outputs.{picks}

-- the entry's path below the top is wanted, and its own is not among others
abbrev pub picks_but : List ℕ → (wanted but : List (List ℕ)) → Entry → Bool
picks_but top wanted but e = picks top wanted e && not (list_any (pointwise nat_eq e.path) but)
