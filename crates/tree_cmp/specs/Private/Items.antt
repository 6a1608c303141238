-- The items of a side, one for each entry that is not gone, and the rows that they make before files are read. Our own.
-- Only clauses of this crate's own functions cite this file.
use Rattle.std.specs.Prelude.{◌≡◌, ℕ, Bool, not, ◌||◌, ◌&&◌, List, map, filter, if◌then◌else◌, Option, Some, None, is_some, nat_eq, All}
use Rattle.std.specs.List.{find, list_any}
use Rattle.std.specs.List.Sorted.{IsStrictlySortedBy}
use Rattle.std.specs.Cmp.Lexicographic.{pointwise}
use Rattle.path_text.specs.Order.{path_cmp, is_under}
use Rattle.path_text.specs.Graft.{below_of}
use Rattle.outside.specs.declared.trees.Stat.{Stat}
use Rattle.entry_pages.specs.declared.entries.Entry.{Entry}
use Rattle.entry_pages.specs.Entries.{size_by}
use Rattle.tree_cmp.specs.declared.items.Item.{Item}
use Rattle.tree_cmp.specs.declared.drafts.Draft.{Draft}
use Rattle.tree_cmp.specs.declared.rows.Two.{Two}
use Rattle.tree_cmp.specs.Sides.{Side, entry_at, is_gone, is_partial}
use Rattle.tree_cmp.specs.Rows.{exist_of, kinds, sizes, is_read, are_links, texts, target_at}

abbrev pub item_of : List ℕ → Entry → Item
item_of top e = record { path = below_of e.path top; stat = e.stat; partial = is_partial e }

abbrev pub items_of : List ℕ → List Entry → List Item
items_of top entries = map (item_of top) (filter (λ e. not (is_gone e.mark)) entries)

-- the item at a path
abbrev pub at : List ℕ → List Item → Option Item
at p items = find (λ x. pointwise nat_eq x.path p) items

-- the path lies under an item whose children are not all known
abbrev pub is_below_partial : List ℕ → List Item → Bool
is_below_partial p items = list_any (λ x. x.partial && is_under p x.path) items

abbrev pub has_row : List ℕ → List Item → List Item → Bool
has_row p l r = (is_some (at p l) || is_some (at p r)) && not (is_below_partial p l || is_below_partial p r)

abbrev pub item_stat : Option Item → Option Stat
item_stat None = None
item_stat (Some x) = x.stat

-- how many bytes of two files are to be read
abbrev pub to_read : Option Stat → Option Stat → Option ℕ
to_read s t = if is_read s t then Some (size_by s) else None

-- whether the texts of two links at a path agree
abbrev pub links_at : Side → Side → List ℕ → Two
links_at l r p = texts (target_at (entry_at l p)) (target_at (entry_at r p))

-- the content before files are read: of two links as their texts, and else as the size
abbrev pub content_before : Two → Option Stat → Option Stat → Two
content_before links s t = if are_links s t then links else sizes s t

-- a row before files are read, where it is known whether two links agree
abbrev pub draft_of : Two → List ℕ → Option Item → Option Item → Draft
draft_of links p a b = record {
  row = record {
    path = p;
    exist = exist_of (is_some a) (is_some b);
    kind = kinds (item_stat a) (item_stat b);
    size = sizes (item_stat a) (item_stat b);
    content = content_before links (item_stat a) (item_stat b);
  };
  unread = to_read (item_stat a) (item_stat b);
  outcome = None;
}

abbrev pub paths : List Draft → List (List ℕ)
paths drafts = map (λ d. d.row.path) drafts

-- the rows of two sides before files are read, where it is known which links agree
pub record AreDrafts (links : List ℕ → Two) (l r : List Item) (drafts : List Draft) : Type 0 where
  pub ascend : IsStrictlySortedBy path_cmp (paths drafts)
  pub shown : (p : List ℕ) → list_any (λ d. pointwise nat_eq d.row.path p) drafts ≡ has_row p l r
  pub each : All (λ d. d ≡ draft_of (links d.row.path) d.row.path (at d.row.path l) (at d.row.path r)) drafts
