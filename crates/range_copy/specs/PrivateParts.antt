-- The parts of a list: the large files, and all other entries. Only the contracts of this crate's own parts cite it.
use Rattle.std.specs.Prelude.{◌≡◌, ℕ, Bool, true, false, not, ◌&&◌, List, [], ◌∷◌, ◌++◌, if◌then◌else◌, nat_lt, Option, Some}
use Rattle.std.specs.Prelude.{None, is_some}
use Rattle.path_text.specs.Order.{is_under}
use Rattle.outside.specs.declared.trees.Kind.TheVariants as kind
use Rattle.entry_pages.specs.Entries.{is_of, size_by}
use Rattle.entry_pages.specs.declared.entries.Entry.{Entry}
use Rattle.range_copy.specs.declared.parting.Parts.{Parts}

-- a file with more bytes than a piece has
abbrev pub exceeds : ℕ → Entry → Bool
exceeds piece e = is_of kind.File e.stat && nat_lt piece (size_by e.stat)

-- the next entry is under this one. Of a file only files that show no tree can have that
abbrev pub has_under : Entry → List Entry → Bool
has_under e [] = false
has_under e (next ∷ rest) = is_under next.path e.path

abbrev pub is_large : ℕ → Entry → List Entry → Bool
is_large piece e rest = exceeds piece e && not (has_under e rest)

-- which of the entries with a stat are large, the large ones, and all others
abbrev pub marks_of : ℕ → List Entry → List Bool
marks_of piece [] = []
marks_of piece (e ∷ rest) = if is_some e.stat then is_large piece e rest ∷ marks_of piece rest else marks_of piece rest

abbrev pub large_of : ℕ → List Entry → List Entry
large_of piece [] = []
large_of piece (e ∷ rest) = if is_large piece e rest then e ∷ large_of piece rest else large_of piece rest

abbrev pub small_of : ℕ → List Entry → List Entry
small_of piece [] = []
small_of piece (e ∷ rest) = if is_large piece e rest then small_of piece rest else e ∷ small_of piece rest

-- the parts of a list so far, with those of the entries that are left
pub record ArePartsOf (piece : ℕ) (parts : Parts) (left all : List Entry) : Type 0 where
  pub small : parts.small ++ small_of piece left ≡ small_of piece all
  pub large : parts.large.items ++ large_of piece left ≡ large_of piece all
  pub marks : parts.marks.items ++ marks_of piece left ≡ marks_of piece all

-- an entry that is held back until the next one is known
abbrev pub held_of : Option Entry → List Entry
held_of None = []
held_of (Some e) = e ∷ []

-- the next entry is under the one that was held back
abbrev pub is_over : Option Entry → List Entry → Bool
is_over None rest = false
is_over (Some last) rest = has_under last rest

-- rows of both parts in the order of the list
abbrev pub merged : {X : Type 0} → List Bool → (small large : List X) → List X
merged [] small large = []
merged (true ∷ marks) small [] = merged marks small []
merged (true ∷ marks) small (x ∷ large) = x ∷ merged marks small large
merged (false ∷ marks) [] large = merged marks [] large
merged (false ∷ marks) (x ∷ small) large = x ∷ merged marks small large

abbrev pub row_of : {X : Type 0} → Option X → List X
row_of None = []
row_of (Some row) = row ∷ []
