-- The findings that the rows make, once their files were read. Our own.
-- Only clauses of this crate's own functions cite this file.
use Rattle.std.specs.Prelude.{ℕ, Bool, List, map, if◌then◌else◌, Option, Some, None}
use Rattle.std.specs.List.{filter_map}
use Rattle.std.specs.Option.{option_map}
use Rattle.path_text.specs.Graft.{grafted}
use Rattle.tree_cmp.specs.declared.drafts.Draft.{Draft}
use Rattle.tree_cmp.specs.declared.reading.Missing.{Missing}
use Rattle.tree_cmp.specs.declared.reading.Missing.TheVariants as missing
use Rattle.tree_cmp.specs.declared.reading.Outcome.{Outcome}
use Rattle.tree_cmp.specs.declared.reading.Outcome.TheVariants as outcome
use Rattle.tree_cmp.specs.declared.rows.Missed.{Missed}
use Rattle.tree_cmp.specs.declared.rows.Row.{Row}
use Rattle.tree_cmp.specs.declared.rows.Two.{Two}
use Rattle.tree_cmp.specs.declared.rows.Two.TheVariants as two
use Rattle.tree_cmp.specs.Rows.{two_of, Findings}

-- the content by what reading came to, and as the size where nothing was read
abbrev pub content_by : Two → Option Outcome → Two
content_by size None = size
content_by size (Some (outcome.Same same)) = two_of same
content_by size (Some (outcome.Missed dest why)) = two.NoValue

abbrev pub row_by : Draft → Row
row_by d = record d.row { content = content_by d.row.content d.outcome }

-- the side whose read failed, or showed a change
abbrev pub side_missed : Missing → Option Outcome → Option Bool
side_missed why None = None
side_missed why (Some (outcome.Same same)) = None
side_missed missing.Failed (Some (outcome.Missed dest missing.Failed)) = Some dest
side_missed missing.Failed (Some (outcome.Missed dest missing.Changed)) = None
side_missed missing.Changed (Some (outcome.Missed dest missing.Failed)) = None
side_missed missing.Changed (Some (outcome.Missed dest missing.Changed)) = Some dest

abbrev pub missed_at : List ℕ → List ℕ → List ℕ → Bool → Missed
missed_at left right path dest = record { path = grafted (if dest then right else left) path; dest = dest }

abbrev pub missed_by : Missing → List ℕ → List ℕ → Draft → Option Missed
missed_by why left right d = option_map (missed_at left right d.row.path) (side_missed why d.outcome)

abbrev pub findings_of : List ℕ → List ℕ → List Draft → Findings
findings_of left right drafts = record {
  rows = map row_by drafts;
  failed = filter_map (missed_by missing.Failed left right) drafts;
  changed = filter_map (missed_by missing.Changed left right) drafts;
}
