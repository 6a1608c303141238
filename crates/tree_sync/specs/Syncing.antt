-- A sync: the entries that are kept, removed and copied, by the rows of a comparison, and the tree that it leaves. Our own, after rsync
-- and mpiFileUtils' dsync.
use Rattle.std.specs.Prelude.{◌≡◌, ℕ, Bool, true, false, not, ◌&&◌, ◌||◌, List, [], ◌∷◌, if◌then◌else◌, length, map, filter, Option, Some, None}
use Rattle.std.specs.Prelude.{is_some}
use Rattle.std.specs.Prelude.{nat_eq, IfSome, All}
use Rattle.std.specs.FinMap.{get}
use Rattle.std.specs.List.{find, list_any}
use Rattle.std.specs.Cmp.Lexicographic.{pointwise}
use Rattle.path_text.specs.Graft.{below_of}
use Rattle.path_text.specs.Order.{is_within}
use Rattle.path_text.specs.Path.{parent_of}
use Rattle.outside.specs.Asked.{Asks}
use Rattle.outside.specs.Tree.{Files, is_dir, link_at}
use Rattle.outside.specs.declared.trees.Kind.TheVariants as kind
use Rattle.outside.specs.declared.trees.Stat.{Stat}
use Rattle.entry_pages.specs.declared.entries.Entry.{Entry}
use Rattle.entry_pages.specs.Entries.{is_of}
use Rattle.flat_list.specs.Spelling.{paths}
use Rattle.level_work.specs.declared.items.Fate.{Fate}
use Rattle.tree_cmp.specs.declared.rows.Row.{Row}
pub use Rattle.tree_cmp.specs.Expressions.{on_both as is_both, only_dest as is_only_dest, agrees as is_common, differs as is_differ}
use Rattle.tree_cmp.specs.Readers.{ShowsChange, ShowsFailure, StatsTold}
use Rattle.tree_cmp.specs.Rows.{Findings, IsComparison}
use Rattle.tree_cmp.specs.Sides.{Side, side, IsSide, is_gone}
use Rattle.tree_remove.specs.Removing.{Removed}
use Rattle.tree_copy.specs.declared.pairs.Pair.{Pair}
use Rattle.tree_copy.specs.Copying.{AreEarly, Copied, ends_of, treated}
use Rattle.tree_copy.specs.Placing.{overlap}
use Rattle.tree_sync.specs.Results.{Results}

-- ---- the row of an entry

-- the row at a path below the tops
abbrev pub row_at : List Row → List ℕ → Option Row
row_at rows p = find (λ row. pointwise nat_eq row.path p) rows

-- both sides have the path, with one kind, and, unless it is a directory, with one content: the bytes of files or the texts of links
abbrev pub agrees : Option Stat → Option Row → Bool
agrees stat None = false
agrees stat (Some row) = is_both row.exist && (is_common row.kind && (is_of kind.Dir stat || is_common row.content))

-- an entry of the source that the destination has already
abbrev pub is_kept : Side → List Row → Entry → Bool
is_kept l rows e = is_some e.stat && agrees e.stat (row_at rows (below_of e.path l.top))

-- and one that it does not have
abbrev pub is_copied : Side → List Row → Entry → Bool
is_copied l rows e = is_some e.stat && not (agrees e.stat (row_at rows (below_of e.path l.top)))

-- the source has a node there that is never copied
abbrev pub has_other : Entry → Bool
has_other e = not (is_gone e.mark) && is_of kind.Other e.stat

-- the path is, or is under, one that the source has as such
abbrev pub is_masked : Side → List ℕ → Bool
is_masked l p = list_any (λ e. has_other e && is_within p (below_of e.path l.top)) l.entries

-- the source has no node at the path, or one of another kind
abbrev pub is_foreign : Option Row → Bool
is_foreign None = false
is_foreign (Some row) = is_only_dest row.exist || is_differ row.kind

-- an entry of the destination that does not belong there
abbrev pub is_chosen : Side → Side → List Row → Entry → Bool
is_chosen l r rows e =
    is_some e.stat && (is_foreign (row_at rows (below_of e.path r.top)) && not (is_masked l (below_of e.path r.top)))

-- ---- the entries that are kept, removed and copied: none, if the source itself has no stat

abbrev pub is_there : Side → Bool
is_there l = list_any (λ e. pointwise nat_eq e.path l.top && is_some e.stat) l.entries

abbrev pub kept_of : Side → List Row → List Entry
kept_of l rows = if is_there l then filter (is_kept l rows) l.entries else []

abbrev pub copied_of : Side → List Row → List Entry
copied_of l rows = if is_there l then filter (is_copied l rows) l.entries else []

abbrev pub chosen_of : Bool → Side → Side → List Row → List Entry
chosen_of delete l r rows = if delete && is_there l then filter (is_chosen l r rows) r.entries else []

-- ---- the removal, the copy, and both

-- the chosen entries were removed
pub record AreRemoved (chosen : List Entry) (rows : List (List ℕ × Fate)) (before after : Option Files) : Type 0 where
  pub paths : map (λ row. row.0) rows ≡ paths chosen
  pub tells : is_some after ≡ is_some before
  pub removed : IfSome before (λ old. IfSome after (Removed rows old))

-- the entries were copied to their targets by the pair
pub record AreCopied (list : List Entry) (pair : Pair) (rows : List (List ℕ × Fate)) (before after : Option Files) : Type 0 where
  pub paths : map (λ row. row.0) rows ≡ paths (treated list)
  pub early : AreEarly list (pair ∷ []) rows
  pub tells : is_some after ≡ is_some before
  pub copied : IfSome before (λ old. IfSome after (Copied list (pair ∷ []) rows old))

-- the sync, by a comparison of the two lists: the entries that do not belong there were removed. Then those that the destination
-- lacks were copied, from the tree that the removal left
pub record Synced (pair : Pair) (source dest : List Entry) (delete : Bool) (done : Results) (before after : Option Files) : Type 0 where
  pub found : Findings
  pub compared : IsComparison before (side pair.source source) (side pair.target dest) found
  pub failed : done.failed ≡ map (λ m. m.path) found.failed
  pub changed : done.changed ≡ map (λ m. m.path) found.changed
  pub kept : done.kept ≡ length (kept_of (side pair.source source) found.rows)
  pub between : Option Files
  pub removed : AreRemoved (chosen_of delete (side pair.source source) (side pair.target dest) found.rows) done.removals before between
  pub copied : AreCopied (copied_of (side pair.source source) found.rows) pair done.copies between after

-- some read of each file that is named as failed or changed gave nothing
pub record ReadsShow {S : Type 0} (gives : Asks S) (unread altered : List (List ℕ)) : Type 0 where
  pub failed : All (ShowsFailure gives) unread
  pub changed : All (ShowsChange gives) altered

-- every path but those at and under a top is as before
abbrev pub SameOutside : List ℕ → Files → Files → Type 0
SameOutside top before after = (q : List ℕ) → is_within q top ≡ false → get after q ≡ get before q

-- ---- lists that can be synced

-- the lists of two walks, from paths of which neither is the other or under it
pub record CanSync (pair : Pair) (source dest : List Entry) : Type 0 where
  pub left : IsSide (side pair.source source)
  pub right : IsSide (side pair.target dest)
  pub apart : overlap (ends_of (pair ∷ [])) ≡ false

-- the entries describe the nodes at their paths: the stats, and the texts of links
pub record AreTold (files : Files) (entries : List Entry) : Type 0 where
  pub stats : StatsTold files entries
  pub targets : All (λ e. IfSome e.target (λ text. link_at (get files e.path) ≡ Some text)) entries

-- the list has a directory above the entry
abbrev pub has_parent : List Entry → Entry → Bool
has_parent list e = list_any (λ d. pointwise nat_eq d.path (parent_of e.path) && is_of kind.Dir d.stat) list

-- the entries describe the tree, those of the source are under their directories, and the target is in a directory
pub record FitsSync (pair : Pair) (source dest : List Entry) (files : Files) : Type 0 where
  pub left : AreTold files source
  pub right : AreTold files dest
  pub parents : All (λ e. is_some e.stat ≡ true → pointwise nat_eq e.path pair.source ≡ false → has_parent source e ≡ true) source
  pub stand : is_dir (get files (parent_of pair.target)) ≡ true
