-- The end of a sync: off the paths that are named, the destination is equal to the source. Our own.
use Rattle.std.specs.Prelude.{⊤, ◌≡◌, ℕ, Bool, true, false, not, ◌&&◌, ◌||◌, ◌==◌, List, ◌++◌, if◌then◌else◌, map, filter, Option, Some, None}
use Rattle.std.specs.Prelude.{is_some, All}
use Rattle.std.specs.FinMap.{get}
use Rattle.std.specs.List.{list_any}
use Rattle.path_text.specs.Graft.{below_of, grafted}
use Rattle.path_text.specs.Order.{is_within}
use Rattle.path_text.specs.Path.{refusal}
use Rattle.outside.specs.Tree.{Files, Node, IsTree, bytes_of, kind_of, text_of}
use Rattle.entry_pages.specs.Entries.{is_fine}
use Rattle.entry_pages.specs.declared.entries.Entry.{Entry}
use Rattle.level_work.specs.declared.items.Fate.{Fate}
use Rattle.tree_cmp.specs.declared.rows.Row.{Row}
use Rattle.tree_cmp.specs.Rows.{Findings, IsComparison, stat_at}
use Rattle.tree_cmp.specs.Sides.{Side, side, IsSide, entry_at, is_gone}
use Rattle.tree_copy.specs.declared.pairs.Pair.{Pair}
use Rattle.level_work.specs.Counts.{is_done}
use Rattle.tree_sync.specs.Results.{Results}
use Rattle.tree_sync.specs.Syncing.{AreTold, CanSync, FitsSync, Synced, is_both, is_common, is_differ, is_only_dest, is_there}

-- ---- the paths that are named, below the tops

-- the entry of a path of which not all is known. A path that is gone is on neither side
abbrev pub is_noted : Entry → Bool
is_noted e = not (is_gone e.mark) && (not (is_some e.stat && is_fine e.mark) || not (e.unnamed == 0 && e.far == 0))

abbrev pub noted : Side → List (List ℕ)
noted s = map (λ e. below_of e.path s.top) (filter is_noted s.entries)

-- the paths of fates other than `Done`
abbrev pub undone : List (List ℕ × Fate) → List (List ℕ)
undone rows = map (λ row. row.0) (filter (λ row. not (is_done row.1)) rows)

-- a path of either side, below its top
abbrev pub below_top : Pair → List ℕ → List ℕ
below_top pair path = if is_within path pair.source then below_of path pair.source else below_of path pair.target

abbrev pub named : Pair → List Entry → List Entry → Results → List (List ℕ)
named pair source dest done =
    noted (side pair.source source) ++ noted (side pair.target dest)
    ++ map (below_top pair) (done.failed ++ done.changed ++ undone done.copies ++ undone done.removals)

-- the path is one of these, or under one
abbrev pub is_under_some : List (List ℕ) → List ℕ → Bool
is_under_some paths p = list_any (is_within p) paths

-- ---- a list that leaves nothing out off the paths that it names

-- if a node is there and no path above it is noted, the side has an entry with a stat
abbrev pub IsWhole : Side → Files → Type 0
IsWhole s files = (p : List ℕ) → refusal p ≡ None → is_some (get files (grafted s.top p)) ≡ true → is_under_some (noted s) p ≡ false →
    is_some (stat_at (entry_at s p)) ≡ true

-- ---- the law of nodes

-- nodes of one kind, files of the same bytes, and links of the same text
pub record AreAlike (n m : Node) : Type 0 where
  pub kind : kind_of m.body ≡ kind_of n.body
  pub bytes : bytes_of m.body ≡ bytes_of n.body
  pub text : text_of m.body ≡ text_of n.body

-- without `delete` the destination may have more than the source, with it nothing more
abbrev pub MayHaveMore : Bool → Type 0
MayHaveMore true = ⊥
MayHaveMore false = ⊤

abbrev pub IsEqual : Bool → (source dest : Option Node) → Type 0
IsEqual delete (Some n) None = ⊥
IsEqual delete (Some n) (Some m) = AreAlike n m
IsEqual delete None None = ⊤
IsEqual delete None (Some m) = MayHaveMore delete

-- a sync from the lists of two walks that leave nothing out, of a source that is there, over files that show their tree
pub record WasSynced (pair : Pair) (source dest : List Entry) (delete : Bool) (done : Results) (before after : Files) : Type 0 where
  pub can : CanSync pair source dest
  pub from : refusal pair.source ≡ None
  pub to : refusal pair.target ≡ None
  pub tree : IsTree before
  pub fits : FitsSync pair source dest before
  pub left : IsWhole (side pair.source source) before
  pub right : IsWhole (side pair.target dest) before
  pub there : is_there (side pair.source source) ≡ true
  pub synced : Synced pair source dest delete done (Some before) (Some after)

-- at each path that is not at or under a named one
abbrev pub SyncMakesEqual : Type 0
SyncMakesEqual = (pair : Pair) (source dest : List Entry) (delete : Bool) (done : Results) (before after : Files) (p : List ℕ)
    → WasSynced pair source dest delete done before after → refusal p ≡ None
    → is_under_some (named pair source dest done) p ≡ false
    → IsEqual delete (get after (grafted pair.source p)) (get after (grafted pair.target p))

-- ---- the law of rows

-- a list of a walk of the tree in which no answer failed: it describes the tree, each entry that is not gone has a stat, and each
-- node has an entry
pub record IsFullList (top : List ℕ) (list : List Entry) (files : Files) : Type 0 where
  pub is_side : IsSide (side top list)
  pub told : AreTold files list
  pub clear : All (λ e. (is_gone e.mark || is_some e.stat) ≡ true) list
  pub whole : (p : List ℕ) → refusal p ≡ None → is_some (get files (grafted top p)) ≡ true → is_some (stat_at (entry_at (side top list) p)) ≡ true

-- a comparison of both trees after the sync
pub record WasCompared (pair : Pair) (after : Files) (source dest : List Entry) (found : Findings) : Type 0 where
  pub tree : IsTree after
  pub left : IsFullList pair.source source after
  pub right : IsFullList pair.target dest after
  pub compared : IsComparison (Some after) (side pair.source source) (side pair.target dest) found

-- a row shows no difference, but that without `delete` the destination alone may have the path
pub record AgreesAfter (delete : Bool) (row : Row) : Type 0 where
  pub exist : (is_both row.exist || (not delete && is_only_dest row.exist)) ≡ true
  pub kind : is_both row.exist ≡ true → is_common row.kind ≡ true
  pub size : is_differ row.size ≡ false
  pub content : is_differ row.content ≡ false

-- so does each row at a path that is not at or under a named one
abbrev pub SyncedRowsAgree : Type 0
SyncedRowsAgree = (pair : Pair) (source dest : List Entry) (delete : Bool) (done : Results) (before after : Files)
    (source' dest' : List Entry) (found : Findings)
    → WasSynced pair source dest delete done before after → WasCompared pair after source' dest' found
    → All (λ row. is_under_some (named pair source dest done) row.path ≡ false → AgreesAfter delete row) found.rows
