-- The result of a copy: the fate of each entry, and the node at its target afterwards. Our own, after cp and mpiFileUtils' dcp.
use Rattle.std.specs.Prelude.{⊤, ◌≡◌, ◌⊎◌, ℕ, Bool, true, false, not, ◌&&◌, List, [], ◌∷◌, ◌++◌, if◌then◌else◌, length, map, nat_eq, nat_lt}
use Rattle.std.specs.Prelude.{Option, Some, None, is_some, is_none, IfSome, All}
use Rattle.std.specs.List.{list_any, filter, sum_by, zip}
use Rattle.std.specs.List.Sorted.{IsStrictlySortedBy}
use Rattle.std.specs.Option.{option_map}
use Rattle.std.specs.FinMap.{get}
use Rattle.std.specs.Cmp.Lexicographic.{pointwise}
use Rattle.path_text.specs.Graft.{grafted, below_of}
use Rattle.path_text.specs.Order.{path_cmp, is_within}
use Rattle.path_text.specs.Path.{parent_of}
use Rattle.outside.specs.Tree.{Files, Node, Body, dir, file, is_dir, kind_of, content, link_at, stat_of}
use Rattle.outside.specs.declared.trees.Kind.{Kind}
use Rattle.outside.specs.declared.trees.Kind.TheVariants as kind
use Rattle.outside.specs.declared.trees.Stat.{Stat}
use Rattle.entry_pages.specs.declared.entries.Entry.{Entry}
use Rattle.entry_pages.specs.Entries.{is_of, bytes_by}
use Rattle.flat_list.specs.Spelling.{paths}
use Rattle.level_work.specs.Counts.{is_done}
use Rattle.level_work.specs.declared.items.Fate.{Fate}
use Rattle.level_work.specs.declared.items.Fate.TheVariants as fate
use Rattle.tree_copy.specs.declared.pairs.Pair.{Pair}
use Rattle.tree_copy.specs.Placing.{overlap}

-- the target of a path: it goes with the source that it is or is under
abbrev pub target_of : List Pair → List ℕ → List ℕ
target_of [] path = []
target_of (pair ∷ pairs) path = if is_within path pair.source then grafted pair.target (below_of path pair.source) else target_of pairs path

-- the entries that are copied: those with a stat
abbrev pub treated : List Entry → List Entry
treated list = filter (λ e. is_some e.stat) list

abbrev pub targets_of : List Pair → List Entry → List (List ℕ)
targets_of pairs list = map (λ e. target_of pairs e.path) (treated list)

abbrev pub is_target : List Pair → List Entry → List ℕ → Bool
is_target pairs list q = list_any (pointwise nat_eq q) (targets_of pairs list)

-- every path but these is as before
abbrev pub SameButTargets : List Pair → List Entry → Files → Files → Type 0
SameButTargets pairs list before after = (q : List ℕ) → is_target pairs list q ≡ false → get after q ≡ get before q

-- a row is the path of an entry and its fate. The target is in that of an entry which did not come to `Done`
abbrev pub parent_failed : List Pair → List (List ℕ × Fate) → List ℕ → Bool
parent_failed pairs rows target = list_any (λ row. pointwise nat_eq (target_of pairs row.0) (parent_of target) && not (is_done row.1)) rows

-- the fate that an entry has whatever node is at its target, if it has such a fate: the first that applies
abbrev pub early : List Pair → List (List ℕ × Fate) → Entry → Option Fate
early pairs rows e =
    if nat_lt 4095 (length (target_of pairs e.path)) then Some fate.TooLong
    else if parent_failed pairs rows (target_of pairs e.path) then Some fate.ParentFailed
    else if is_of kind.Other e.stat then Some fate.Skipped
    else None

-- the node is of another kind than the entry
abbrev pub clashes : Option Stat → Option Node → Bool
clashes stat None = false
clashes stat (Some node) = not (is_of (kind_of node.body) stat)

abbrev pub or_else : Option Fate → Fate → Fate
or_else None f = f
or_else (Some g) f = g

-- a link whose text is not known
abbrev pub is_untold : Entry → Bool
is_untold e = is_of kind.Link e.stat && is_none e.target

-- the fate that an entry has if no answer fails: the first that applies
abbrev pub due : Files → List Pair → List (List ℕ × Fate) → Entry → Fate
due before pairs rows e =
    or_else (early pairs rows e)
    (if clashes e.stat (get before (target_of pairs e.path)) then fate.Conflict else if is_untold e then fate.Changed else fate.Done)

-- fates in whose place `Failed` may come
abbrev pub may_fail : Fate → Bool
may_fail fate.Done = true
may_fail fate.Conflict = true
may_fail fate.Changed = true
may_fail fate.Failed = false
may_fail fate.Skipped = false
may_fail fate.ParentFailed = false
may_fail fate.NotEmpty = false
may_fail fate.TooLong = false

abbrev pub body_of : Option Node → Option Body
body_of node = option_map (λ n. n.body) node

-- The node at the target of a copied entry: the directory that was there or else an empty one, a file with the source's bytes, or a
-- link with its text. Nothing is said of its time
abbrev pub IsCopyOf : Kind → (source target after : Option Node) → Type 0
IsCopyOf kind.Dir source None after = body_of after ≡ Some (dir 0)
IsCopyOf kind.Dir source (Some node) after = after ≡ Some node
IsCopyOf kind.File source target after = body_of after ≡ Some (file (content source))
IsCopyOf kind.Link source target after = (is_some (link_at source) ≡ true) × (link_at after ≡ link_at source)
IsCopyOf kind.Other source target after = ⊥

-- the node at a target afterwards, by the fate of its entry. Of an entry that failed nothing is said
abbrev pub IsLeft : Files → Files → Entry → List ℕ → Fate → Type 0
IsLeft before after e target fate.Done = IfSome e.stat (λ stat. IsCopyOf stat.kind (get before e.path) (get before target) (get after target))
IsLeft before after e target fate.Failed = ⊤
IsLeft before after e target fate.Conflict = get after target ≡ get before target
IsLeft before after e target fate.Skipped = get after target ≡ get before target
IsLeft before after e target fate.ParentFailed = get after target ≡ get before target
IsLeft before after e target fate.TooLong = get after target ≡ get before target
IsLeft before after e target fate.Changed = get after target ≡ get before target
IsLeft before after e target fate.NotEmpty = ⊥

-- an entry with its fate, between the map before the copy and the one after it
pub record IsCopied (before after : Files) (pairs : List Pair) (rows : List (List ℕ × Fate)) (e : Entry) (f : Fate) : Type 0 where
  -- it has the fate that is due, or an answer failed in its place
  pub fate_of : (f ≡ due before pairs rows e) ⊎ ((f ≡ fate.Failed) × (may_fail (due before pairs rows e) ≡ true))
  pub left : IsLeft before after e (target_of pairs e.path) f

-- the copy: each entry has its fate, and nothing but targets has changed
pub record Copied (list : List Entry) (pairs : List Pair) (rows : List (List ℕ × Fate)) (before after : Files) : Type 0 where
  pub others : SameButTargets pairs list before after
  pub each : All (λ one. IsCopied before after pairs rows one.0 one.1.1) (zip (treated list) rows)

-- fates of entries that are tried at all
abbrev pub is_tried : Fate → Bool
is_tried fate.Done = true
is_tried fate.Failed = true
is_tried fate.Conflict = true
is_tried fate.Changed = true
is_tried fate.Skipped = false
is_tried fate.ParentFailed = false
is_tried fate.NotEmpty = false
is_tried fate.TooLong = false

-- an entry's fate over all files: no link is made whose text is not known
abbrev pub IsEarly : List Pair → List (List ℕ × Fate) → Entry → Fate → Type 0
IsEarly pairs rows e f = (early pairs rows e ≡ Some f) ⊎ ((early pairs rows e ≡ None) × (is_tried f ≡ true) × ((is_untold e && is_done f) ≡ false))

abbrev pub AreEarly : List Entry → List Pair → List (List ℕ × Fate) → Type 0
AreEarly list pairs rows = All (λ one. IsEarly pairs rows one.0 one.1.1) (zip (treated list) rows)

-- the bytes of the copied files, by the sizes of their entries
abbrev pub bytes_copied : List Entry → List (List ℕ × Fate) → ℕ
bytes_copied list rows = sum_by (λ one. if is_done one.1.1 then bytes_by one.0.stat else 0) (zip (treated list) rows)

-- lists that can be copied: paths in path order, each within a source; and no source or target within another
abbrev pub ends_of : List Pair → List (List ℕ)
ends_of pairs = map (λ pair. pair.source) pairs ++ map (λ pair. pair.target) pairs

pub record CanCopy (list : List Entry) (pairs : List Pair) : Type 0 where
  pub ascend : IsStrictlySortedBy path_cmp (paths list)
  pub in_source : All (λ e. list_any (λ pair. is_within e.path pair.source) pairs ≡ true) list
  pub apart : overlap (ends_of pairs) ≡ false

-- the entries describe the tree, and each target is in a directory, or in the target of an entry
pub record FitsTree (list : List Entry) (pairs : List Pair) (before : Files) : Type 0 where
  pub told : All (λ e. IfSome e.stat (λ stat. option_map stat_of (get before e.path) ≡ Some stat)) list
  pub targets : All (λ e. IfSome e.target (λ text. link_at (get before e.path) ≡ Some text)) list
  pub stand : All (λ e. is_target pairs list (parent_of (target_of pairs e.path)) ≡ false
      → is_dir (get before (parent_of (target_of pairs e.path))) ≡ true) (treated list)
