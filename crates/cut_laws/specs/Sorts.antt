-- The result of a sort of entries. Our own, after the sort fields of mpiFileUtils' dwalk.
use Rattle.std.specs.Prelude.{◌≡◌, Bool, List}
use Rattle.std.specs.List.Sorted.{IsSorted, IsStrictlySortedBy, IsPermutation}
use Rattle.path_text.specs.Order.{path_cmp}
use Rattle.entry_pages.specs.declared.entries.Entry.{Entry}
use Rattle.flat_list.specs.declared.ordering.Field.{Field}
use Rattle.flat_list.specs.Orders.{sort_order}
use Rattle.tree_walk.specs.Walk.{paths_of}

-- the entries of a list, each path once, have one order by a field: if two tie, the path decides
abbrev pub SortsAreUnique : Type 0
SortsAreUnique = (field : Field) (down : Bool) (list first second : List Entry) → IsStrictlySortedBy path_cmp (paths_of list) →
    IsPermutation list first → IsSorted (sort_order field down) first → IsPermutation list second → IsSorted (sort_order field down) second →
    first ≡ second
