-- The words of the steps of a sync. Only the contracts of this crate's own parts cite it.
use Rattle.std.specs.Prelude.{◌≡◌, ℕ, Bool, not, ◌&&◌, List, length, map, filter, Option, None, IfSome, is_some, if◌then◌else◌, slice_get}
use Rattle.std.specs.List.{list_any}
use Rattle.path_text.specs.Graft.{below_of}
use Rattle.path_text.specs.Order.{is_within}
use Rattle.path_text.specs.Path.{refusal}
use Rattle.outside.specs.Tree.{Files, IsTree, NodesHavePaths}
use Rattle.entry_pages.specs.declared.entries.Entry.{Entry}
use Rattle.level_work.specs.declared.items.Fate.{Fate}
use Rattle.tree_cmp.specs.declared.rows.Row.{Row}
use Rattle.tree_cmp.specs.Rows.{Findings, IsComparison}
use Rattle.tree_cmp.specs.Sides.{Side, side}
use Rattle.tree_copy.specs.declared.pairs.Pair.{Pair}
use Rattle.tree_sync.specs.Results.{Results}
use Rattle.tree_sync.specs.Syncing.{CanSync, FitsSync, has_other, is_copied, is_foreign, is_kept, kept_of, copied_of, chosen_of, row_at}
use Rattle.tree_sync.specs.declared.dividing.Division.{Division}
use Rattle.tree_sync.specs.declared.planning.Plan.{Plan}

abbrev pub row_paths : List Row → List (List ℕ)
row_paths rows = map (λ row. row.path) rows

-- the row at a place, if it is there
abbrev pub row_if : Bool → List Row → ℕ → Option Row
row_if there rows at = if there then slice_get rows at else None

-- the paths below the top at which the side has a node that is never copied
abbrev pub masks_of : Side → List (List ℕ)
masks_of l = map (λ e. below_of e.path l.top) (filter has_other l.entries)

-- an entry of the destination that does not belong there, by the paths that are masked
abbrev pub is_chosen_off : List (List ℕ) → Side → List Row → Entry → Bool
is_chosen_off masks r rows e =
    is_some e.stat && (is_foreign (row_at rows (below_of e.path r.top)) && not (list_any (is_within (below_of e.path r.top)) masks))

-- the source's entries, divided by the rows
pub record IsDivision (l : Side) (rows : List Row) (division : Division) : Type 0 where
  pub kept : division.kept ≡ length (filter (is_kept l rows) l.entries)
  pub copied : division.copied ≡ filter (is_copied l rows) l.entries
  pub masks : division.masks.items ≡ masks_of l

-- the plan, by a comparison
pub record IsPlan (pair : Pair) (source dest : List Entry) (delete : Bool) (tree : Option Files) (plan : Plan) : Type 0 where
  pub found : Findings
  pub compared : IsComparison tree (side pair.source source) (side pair.target dest) found
  pub kept : plan.kept ≡ length (kept_of (side pair.source source) found.rows)
  pub copied : plan.copied ≡ copied_of (side pair.source source) found.rows
  pub chosen : plan.chosen ≡ chosen_of delete (side pair.source source) (side pair.target dest) found.rows
  pub failed : plan.failed.items ≡ map (λ m. m.path) found.failed
  pub changed : plan.changed.items ≡ map (λ m. m.path) found.changed

-- the lists and the pair can be synced
pub record Known (pair : Pair) (source dest : List Entry) : Type 0 where
  pub can : CanSync pair source dest
  pub from : refusal pair.source ≡ None
  pub to : refusal pair.target ≡ None

-- a plan, and the facts where it begins
pub record Begun (pair : Pair) (source dest : List Entry) (delete : Bool) (tree now : Option Files) (plan : Plan) : Type 0 where
  pub law : NodesHavePaths
  pub known : Known pair source dest
  pub fits : IfSome tree (FitsSync pair source dest)
  pub are_trees : IfSome tree IsTree
  pub is_plan : IsPlan pair source dest delete tree plan
  pub same : now ≡ tree

-- the results of a plan
abbrev pub results_of : Plan → List (List ℕ × Fate) → List (List ℕ × Fate) → Results
results_of plan removals copies = record {
  copies = copies;
  removals = removals;
  kept = plan.kept;
  failed = plan.failed.items;
  changed = plan.changed.items;
}
