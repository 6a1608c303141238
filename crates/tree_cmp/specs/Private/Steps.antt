-- The steps by which two sides are laid beside each other. Our own.
-- Only clauses of this crate's own functions cite this file.
use Rattle.std.specs.Prelude.{◌≡◌, ℕ, ◌≤◌, Bool, true, false, not, ◌&&◌, ◌||◌, List, [], ◌∷◌, map, length, drop, if◌then◌else◌, Option, Some, None}
use Rattle.std.specs.Prelude.{is_some, nat_eq, IsTrue, All, IfSome, ◌<◌, ◌-◌, slice_get}
use Rattle.std.specs.List.{AllByRecursion, list_any, cons_option}
use Rattle.std.specs.List.Sorted.{IsStrictlySortedBy}
use Rattle.std.specs.Option.{option_map}
use Rattle.std.specs.Cmp.Lexicographic.{pointwise}
use Rattle.std.specs.declared.cmp.Ordering.{Ordering}
use Rattle.std.specs.declared.cmp.Ordering.TheVariants.{Less, Greater}
use Rattle.path_text.specs.Order.{path_cmp, is_under, is_within}
use Rattle.path_text.specs.Graft.{below_of}
use Rattle.path_text.specs.Path.{refusal}
use Rattle.entry_pages.specs.declared.entries.Entry.{Entry}
use Rattle.tree_cmp.specs.declared.items.Item.{Item}
use Rattle.tree_cmp.specs.declared.items.Feed.{Feed}
use Rattle.tree_cmp.specs.declared.merging.Ends.{Ends}
use Rattle.tree_cmp.specs.declared.drafts.Draft.{Draft}
use Rattle.tree_cmp.specs.declared.rows.Two.{Two}
use Rattle.tree_cmp.specs.Sides.{Side, side, is_gone}
use Rattle.tree_cmp.specs.Private.Items.{at, is_below_partial, items_of, draft_of, paths}

-- what a feed has not given yet
abbrev pub ahead : Feed → List Item
ahead f = items_of f.top.now (drop f.cursor.1 f.cursor.0)

pub record IsSound (f : Feed) : Type 0 where
  pub within : All (λ e. IsTrue (is_within e.path f.top.now)) f.cursor.0
  pub inside : f.cursor.1 ≤ length f.cursor.0

-- the whole side that a feed goes over
abbrev pub side_of : Feed → Side
side_of f = side f.top.now f.cursor.0

-- the entry that a feed passed last
abbrev pub current : Feed → Option Entry
current f = slice_get f.cursor.0 (f.cursor.1 - 1)

-- the item is that of the entry passed last
pub record IsCurrent (f : Feed) (x : Item) : Type 0 where
  pub there : option_map (λ e. is_gone e.mark) (current f) ≡ Some false
  pub path : option_map (λ e. below_of e.path f.top.now) (current f) ≡ Some x.path

abbrev pub left_of : Ends → List Item
left_of e = cons_option e.next (ahead e.feed)

pub record HasSoundEnds (e : Ends) : Type 0 where
  pub feed : IsSound e.feed
  pub last : e.next ≡ None → ahead e.feed ≡ []
  pub begun : is_some e.next ≡ true → 0 < e.feed.cursor.1
  pub own : IfSome e.next (IsCurrent e.feed)

abbrev pub Ascend : List Item → Type 0
Ascend items = IsStrictlySortedBy path_cmp (map (λ x. x.path) items)

-- all items stand behind the path
abbrev pub Behind : List ℕ → List Item → Type 0
Behind p items = AllByRecursion (λ x. path_cmp p x.path ≡ Less) items

-- the path is under this one, where there is one
abbrev pub under_some : List ℕ → Option (List ℕ) → Bool
under_some p None = false
under_some p (Some u) = is_under p u

abbrev pub BehindSome : Option (List ℕ) → List Item → Type 0
BehindSome None items = Unit {0}
BehindSome (Some u) items = (refusal u ≡ None) × Behind u items

abbrev pub BeforeSome : Option (List ℕ) → List ℕ → Type 0
BeforeSome None p = Unit {0}
BeforeSome (Some u) p = (refusal u ≡ None) × (path_cmp u p ≡ Less)

abbrev pub is_partial_item : Option Item → Bool
is_partial_item None = false
is_partial_item (Some x) = x.partial

abbrev pub shown_from : Option (List ℕ) → List ℕ → List Item → List Item → Bool
shown_from h p l r = (is_some (at p l) || is_some (at p r)) && not (is_below_partial p l || (is_below_partial p r || under_some p h))

abbrev pub is_row : List ℕ → List Draft → Bool
is_row p drafts = list_any (λ d. pointwise nat_eq d.row.path p) drafts

-- the rows of what is left of two sides, where nothing under one path is shown
pub record From (links : List ℕ → Two) (h : Option (List ℕ)) (l r : List Item) (drafts : List Draft) : Type 0 where
  pub ascend : IsStrictlySortedBy path_cmp (paths drafts)
  pub shown : (p : List ℕ) → is_row p drafts ≡ shown_from h p l r
  pub each : AllByRecursion (λ d. d ≡ draft_of (links d.row.path) d.row.path (at d.row.path l) (at d.row.path r)) drafts

-- of a side this stands at the path, which is the least, and the rest behind it
pub record Heads (p : List ℕ) (items : List Item) (a : Option Item) (rest : List Item) : Type 0 where
  pub are : items ≡ cons_option a rest
  pub path : (x : Item) → a ≡ Some x → x.path ≡ p
  pub behind : Behind p rest

abbrev pub order_by : Option Item → Option Item → Ordering
order_by None b = Greater
order_by (Some x) None = Less
order_by (Some x) (Some y) = path_cmp x.path y.path

abbrev pub path_of : Option Item → Option Item → List ℕ
path_of None None = []
path_of None (Some y) = y.path
path_of (Some x) b = x.path

-- two sides to go on with, where nothing under one path is shown
pub record Ready (h : Option (List ℕ)) (l r : List Item) : Type 0 where
  pub left : Ascend l
  pub right : Ascend r
  pub above_left : BehindSome h l
  pub above_right : BehindSome h r

-- what one step takes of two sides: the next item of one or of each
pub record Takes (l r : List Item) (a b : Option Item) (l' r' : List Item) : Type 0 where
  pub some : (is_some a || is_some b) ≡ true
  pub left : Heads (path_of a b) l a l'
  pub right : Heads (path_of a b) r b r'

-- what is hidden after a step
abbrev pub hidden_after : Option (List ℕ) → Option Item → Option Item → Option (List ℕ)
hidden_after h a b = if under_some (path_of a b) h then h else (if is_partial_item a || is_partial_item b then Some (path_of a b) else h)

-- and which row it adds
abbrev pub row_after : Two → Option (List ℕ) → Option Item → Option Item → List Draft
row_after links h a b = if under_some (path_of a b) h then [] else draft_of links (path_of a b) a b ∷ []
