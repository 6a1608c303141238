-- The orders of a list by a field, and how places and entries are dealt. Our own, after the sort fields of mpiFileUtils' dwalk and the
-- spread of its flat lists over ranks.
use Rattle.std.specs.Prelude.{ℕ, ◌+◌, ◌%◌, Bool, true, false, List, [], ◌∷◌, max, Option, Some, None, if◌then◌else◌, ◌==◌}
use Rattle.std.specs.Option.{option_cmp}
use Rattle.std.specs.Ordering.{on, nat_cmp, flip_args, then_cmp}
use Rattle.std.specs.declared.cmp.Ordering.{Ordering}
use Rattle.std.specs.Cmp.Lexicographic.{slice_cmp}
use Rattle.path_text.specs.Path.{base_of, level_of}
use Rattle.path_text.specs.Order.{path_cmp}
use Rattle.outside.specs.declared.trees.Kind.{Kind}
use Rattle.outside.specs.declared.trees.Kind.TheVariants as kind
use Rattle.outside.specs.declared.trees.Stat.{Stat}
use Rattle.entry_pages.specs.declared.entries.Entry.{Entry}
use Rattle.flat_list.specs.declared.ordering.Field.{Field}
use Rattle.flat_list.specs.declared.ordering.Field.TheVariants as field

-- the place of a kind among the kinds
abbrev pub kind_place : Kind → ℕ
kind_place kind.File = 0
kind_place kind.Dir = 1
kind_place kind.Link = 2
kind_place kind.Other = 3

abbrev pub size_of : Option Stat → Option ℕ
size_of None = None
size_of (Some stat) = Some stat.size

abbrev pub time_of : Option Stat → Option ℕ
time_of None = None
time_of (Some stat) = stat.mtime

abbrev pub kind_of : Option Stat → Option ℕ
kind_of None = None
kind_of (Some stat) = Some (kind_place stat.kind)

abbrev pub by_path : Entry → Entry → Ordering
by_path = on (λ e. e.path) path_cmp

-- by one field: names by their bytes; a missing size, time or kind is below every other
abbrev pub by_field : Field → Entry → Entry → Ordering
by_field field.Path = by_path
by_field field.Name = on (λ e. base_of e.path) (slice_cmp nat_cmp)
by_field field.Size = on (λ e. size_of e.stat) (option_cmp nat_cmp)
by_field field.Mtime = on (λ e. time_of e.stat) (option_cmp nat_cmp)
by_field field.Kind = on (λ e. kind_of e.stat) (option_cmp nat_cmp)

-- an order, or the other way round
abbrev pub turned : Bool → (Entry → Entry → Ordering) → Entry → Entry → Ordering
turned false cmp = cmp
turned true cmp = flip_args cmp

-- the order of a sort: the field, upwards or downwards, and ascending path order if it ties
abbrev pub sort_order : Field → Bool → Entry → Entry → Ordering
sort_order f down = then_cmp (turned down (by_field f)) by_path

-- how many levels there are down to the deepest entry
abbrev pub level_count : List Entry → ℕ
level_count [] = 0
level_count (e ∷ entries) = max (level_of e.path + 1) (level_count entries)

-- the places of the entries of one level, after a number of entries
abbrev pub places_from : ℕ → ℕ → List Entry → List ℕ
places_from before level [] = []
places_from before level (e ∷ entries) =
    if level_of e.path == level then before ∷ places_from (before + 1) level entries else places_from (before + 1) level entries

abbrev pub places_at : ℕ → List Entry → List ℕ
places_at level entries = places_from 0 level entries

-- piece j of n: each entry whose place, after a number of entries, leaves j when it is divided by n
abbrev pub dealt_from : ℕ → ℕ → ℕ → List Entry → List Entry
dealt_from before n j [] = []
dealt_from before n j (e ∷ entries) = if before % n == j then e ∷ dealt_from (before + 1) n j entries else dealt_from (before + 1) n j entries

abbrev pub dealt : ℕ → ℕ → List Entry → List Entry
dealt n j entries = dealt_from 0 n j entries
