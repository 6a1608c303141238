-- What dcmp prints: a line for each row, and the line of their counts. The fields are those of mpiFileUtils' dcmp; the signs and the texts are our own.
use Rattle.std.specs.Prelude.{ℕ, List, [], ◌∷◌, ◌++◌, length, codes}
use Rattle.std.specs.List.{flat_map, count_by}
use Rattle.std.specs.Fmt.{decimal}
use Rattle.path_text.specs.Escape.{escape}
use Rattle.tree_cmp.specs.declared.rows.Exist.{Exist}
use Rattle.tree_cmp.specs.declared.rows.Exist.TheVariants as exist
use Rattle.tree_cmp.specs.declared.rows.Two.{Two}
use Rattle.tree_cmp.specs.declared.rows.Two.TheVariants as two
use Rattle.tree_cmp.specs.declared.rows.Row.{Row}
use Rattle.tree_cmp.specs.Expressions.{only_src, only_dest, on_both, differs}
use Rattle.tool_text.specs.declared.comparing.RowCounts.{RowCounts}

-- the sign of who has the path: `S` the source alone, `D` the destination alone, `C` both
abbrev pub exist_sign : Exist → ℕ
exist_sign exist.OnlySrc = 83
exist_sign exist.OnlyDest = 68
exist_sign exist.Common = 67

-- the sign of what is compared: `=` where it is equal, `!` where it differs, `-` where there is nothing to compare
abbrev pub two_sign : Two → ℕ
two_sign two.Common = 61
two_sign two.Differ = 33
two_sign two.NoValue = 45

-- the line of a row
abbrev pub row_line : Row → List ℕ
row_line row =
    (exist_sign row.exist ∷ 32 ∷ two_sign row.kind ∷ 32 ∷ two_sign row.size ∷ 32 ∷ two_sign row.content ∷ 32 ∷ []) ++ escape row.path ++ 10 ∷ []

-- the lines of the rows, in their order
abbrev pub row_lines : List Row → List ℕ
row_lines rows = flat_map row_line rows

-- how many rows there are, of paths in the source alone, in the destination alone and in both, and that differ in each field
abbrev pub counts_of : List Row → RowCounts
counts_of rows = record {
  rows = length rows;
  only_src = count_by (λ row. only_src row.exist) rows;
  only_dest = count_by (λ row. only_dest row.exist) rows;
  common = count_by (λ row. on_both row.exist) rows;
  kind = count_by (λ row. differs row.kind) rows;
  size = count_by (λ row. differs row.size) rows;
  content = count_by (λ row. differs row.content) rows;
}

-- a number behind its label
abbrev pub labelled : List ℕ → ℕ → List ℕ
labelled label n = label ++ decimal n

-- how many rows there are, by the sides that their paths are on
abbrev pub side_counts : RowCounts → List ℕ
side_counts counts =
    labelled (codes "rows ") counts.rows
    ++ labelled (codes " only_src ") counts.only_src
    ++ labelled (codes " only_dest ") counts.only_dest
    ++ labelled (codes " common ") counts.common

-- and how many differ in each field
abbrev pub field_counts : RowCounts → List ℕ
field_counts counts =
    labelled (codes " differ_type ") counts.kind
    ++ labelled (codes " differ_size ") counts.size
    ++ labelled (codes " differ_content ") counts.content

-- the line of the counts, and of how many failures are noted
abbrev pub counts_line : RowCounts → ℕ → List ℕ
counts_line counts failed = side_counts counts ++ field_counts counts ++ labelled (codes " failed ") failed ++ 10 ∷ []

-- all that is printed of a comparison
abbrev pub rows_text : List Row → ℕ → List ℕ
rows_text rows failed = row_lines rows ++ counts_line (counts_of rows) failed
