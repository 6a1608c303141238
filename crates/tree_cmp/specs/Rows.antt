-- The comparison of two sides, row by row, and the reads that gave nothing. The fields and their states are those of mpiFileUtils' dcmp;
-- that two links are compared by their texts is as in rsync; what has no value, and what is read, is our own.
use Rattle.std.specs.Prelude.{◌≡◌, ℕ, Bool, true, false, not, ◌&&◌, ◌==◌, List, [], ◌++◌, map, if◌then◌else◌, Option, Some, None, is_some, nat_eq, IfSome, All}
use Rattle.std.specs.List.{list_any}
use Rattle.std.specs.List.Sorted.{IsStrictlySortedBy}
use Rattle.std.specs.FinMap.{get}
use Rattle.std.specs.Option.{option_map}
use Rattle.std.specs.Cmp.Lexicographic.{pointwise}
use Rattle.path_text.specs.Order.{path_cmp}
use Rattle.path_text.specs.Graft.{below_of}
use Rattle.outside.specs.Tree.{Files, content}
use Rattle.outside.specs.declared.trees.Kind.TheVariants as kind
use Rattle.outside.specs.declared.trees.Stat.{Stat}
use Rattle.entry_pages.specs.declared.entries.Entry.{Entry}
use Rattle.entry_pages.specs.Entries.{is_kind, is_of}
use Rattle.tree_cmp.specs.declared.rows.Exist.{Exist}
use Rattle.tree_cmp.specs.declared.rows.Exist.TheVariants as exist
use Rattle.tree_cmp.specs.declared.rows.Two.{Two}
use Rattle.tree_cmp.specs.declared.rows.Two.TheVariants as two
use Rattle.tree_cmp.specs.declared.rows.Row.{Row}
use Rattle.tree_cmp.specs.declared.rows.Missed.{Missed}
use Rattle.tree_cmp.specs.Sides.{Side, entry_at, is_shown}

-- ---- the fields of a row, by what the two sides have at its path

-- by whether the source's side and the destination's have the path
abbrev pub exist_of : Bool → Bool → Exist
exist_of true true = exist.Common
exist_of true false = exist.OnlySrc
exist_of false dest = exist.OnlyDest

abbrev pub stat_at : Option Entry → Option Stat
stat_at None = None
stat_at (Some e) = e.stat

abbrev pub target_at : Option Entry → Option (List ℕ)
target_at None = None
target_at (Some e) = e.target

abbrev pub two_of : Bool → Two
two_of same = if same then two.Common else two.Differ

abbrev pub kinds : Option Stat → Option Stat → Two
kinds None t = two.NoValue
kinds (Some s) None = two.NoValue
kinds (Some s) (Some t) = two_of (is_kind s.kind t.kind)

abbrev pub are_files : Stat → Stat → Bool
are_files s t = is_kind kind.File s.kind && is_kind kind.File t.kind

abbrev pub sizes : Option Stat → Option Stat → Two
sizes None t = two.NoValue
sizes (Some s) None = two.NoValue
sizes (Some s) (Some t) = if are_files s t then two_of (s.size == t.size) else two.NoValue

abbrev pub are_links : Option Stat → Option Stat → Bool
are_links s t = is_of kind.Link s && is_of kind.Link t

-- whether the texts of two links agree, where both are known
abbrev pub texts : Option (List ℕ) → Option (List ℕ) → Two
texts None u = two.NoValue
texts (Some t) None = two.NoValue
texts (Some t) (Some u) = two_of (pointwise nat_eq t u)

-- the content without a read: two links are compared by their texts; files of two sizes differ, and files without bytes are equal
abbrev pub unread : Option Entry → Option Entry → Two
unread a b =
    if are_links (stat_at a) (stat_at b) then texts (target_at a) (target_at b) else sizes (stat_at a) (stat_at b)

-- whether the bytes are read: of two files of one size that is not 0
abbrev pub is_read : Option Stat → Option Stat → Bool
is_read None t = false
is_read (Some s) None = false
is_read (Some s) (Some t) = are_files s t && (s.size == t.size && not (s.size == 0))

-- whether the tree has the same bytes at two entries
abbrev pub same_bytes : Files → Option Entry → Option Entry → Bool
same_bytes files None b = false
same_bytes files (Some d) None = false
same_bytes files (Some d) (Some e) = pointwise nat_eq (content (get files d.path)) (content (get files e.path))

-- it says that two agree or that they differ
abbrev pub has_value : Two → Bool
has_value two.Common = true
has_value two.Differ = true
has_value two.NoValue = false

-- the content of a row, over files that may tell their tree; `missed` is whether a read of one of its files gave nothing
pub record IsContent (tree : Option Files) (missed : Bool) (a b : Option Entry) (c : Two) : Type 0 where
  pub not_read : is_read (stat_at a) (stat_at b) ≡ false → c ≡ unread a b
  pub unknown : is_read (stat_at a) (stat_at b) ≡ true → missed ≡ true → c ≡ two.NoValue
  pub known : is_read (stat_at a) (stat_at b) ≡ true → missed ≡ false → has_value c ≡ true
  -- and where the files tell their tree, it says whether the bytes are equal
  pub told : is_read (stat_at a) (stat_at b) ≡ true → missed ≡ false → IfSome tree (λ files. c ≡ two_of (same_bytes files a b))

pub record IsRow (tree : Option Files) (missed : Bool) (a b : Option Entry) (row : Row) : Type 0 where
  pub exist : row.exist ≡ exist_of (is_some a) (is_some b)
  pub kind : row.kind ≡ kinds (stat_at a) (stat_at b)
  pub size : row.size ≡ sizes (stat_at a) (stat_at b)
  pub content : IsContent tree missed a b row.content

-- ---- reads that gave nothing

-- the path of the row to which a file belongs
abbrev pub row_path : Side → Side → Missed → List ℕ
row_path l r m = below_of m.path (if m.dest then r.top else l.top)

-- whether some of these files belongs to the row at a path
abbrev pub is_missed : Side → Side → List Missed → List ℕ → Bool
is_missed l r missed p = list_any (λ m. pointwise nat_eq (row_path l r m) p) missed

-- a file that was to be read: it belongs to a row whose two files are, and is that of its side
pub record WasToBeRead (l r : Side) (m : Missed) : Type 0 where
  pub shown : is_shown l r (row_path l r m) ≡ true
  pub read : is_read (stat_at (entry_at l (row_path l r m))) (stat_at (entry_at r (row_path l r m))) ≡ true
  pub own : option_map (λ e. e.path) (entry_at (if m.dest then r else l) (row_path l r m)) ≡ Some m.path

-- ---- the comparison

-- the rows, the files whose reads failed, and those that reads showed to have changed
pub record Findings : Type 0 where
  pub rows : List Row
  pub failed : List Missed
  pub changed : List Missed

-- the findings are those of two sides, over files that may tell their tree
pub record IsComparison (tree : Option Files) (l r : Side) (found : Findings) : Type 0 where
  -- the rows stand in path order, one at each path that has one, and each says what the sides have there
  pub ascend : IsStrictlySortedBy path_cmp (map (λ row. row.path) found.rows)
  pub shown : (p : List ℕ) → list_any (λ row. pointwise nat_eq row.path p) found.rows ≡ is_shown l r p
  pub each : All (λ row. IsRow tree (is_missed l r (found.failed ++ found.changed) row.path) (entry_at l row.path) (entry_at r row.path) row) found.rows
  -- what was missed stands in the order of the rows, at most once for a row, and is a file that was to be read
  pub failed_ascend : IsStrictlySortedBy path_cmp (map (row_path l r) found.failed)
  pub changed_ascend : IsStrictlySortedBy path_cmp (map (row_path l r) found.changed)
  pub apart : All (λ m. is_missed l r found.changed (row_path l r m) ≡ false) found.failed
  pub to_be_read : All (WasToBeRead l r) (found.failed ++ found.changed)
  -- files that tell their tree do not change
  pub unchanged : IfSome tree (λ files. found.changed ≡ [])
