-- Entries become items of work at their targets, and fates of items become those of entries. Only the contracts of this crate's own
-- parts cite it.
use Rattle.std.specs.Prelude.{ℕ, ◌+◌, Bool, true, false, ◌&&◌, ◌||◌, List, [], ◌∷◌, length, map, if◌then◌else◌, nat_le}
use Rattle.std.specs.List.{filter}
use Rattle.outside.specs.declared.trees.Kind.TheVariants as kind
use Rattle.entry_pages.specs.declared.entries.Entry.{Entry}
use Rattle.entry_pages.specs.Entries.{is_of, bytes_by}
use Rattle.level_work.specs.declared.items.Item.{Item}
use Rattle.level_work.specs.declared.items.Fate.{Fate}
use Rattle.level_work.specs.declared.items.Fate.TheVariants as fate
use Rattle.tree_copy.specs.declared.pairs.Pair.{Pair}
use Rattle.level_work.specs.Counts.{is_done}
use Rattle.tree_copy.specs.Copying.{is_untold, target_of, treated}

-- the target is no longer than a path may be
abbrev pub has_room : List Pair → Entry → Bool
has_room pairs e = nat_le (length (target_of pairs e.path)) 4095

-- an entry at its target
abbrev pub item_of : List Pair → Entry → Item
item_of pairs e = record { path = target_of pairs e.path; entry = e }

-- the entries that are worked on
abbrev pub placed_of : List Pair → List Entry → List Entry
placed_of pairs list = filter (has_room pairs) (treated list)

abbrev pub items_of : List Pair → List Entry → List Item
items_of pairs list = map (item_of pairs) (placed_of pairs list)

-- a node that is not a directory, file or link is not copied
abbrev pub is_other : Entry → Bool
is_other e = is_of kind.Other e.stat

-- the fate of an entry by that of its item. An other node is skipped, and fates that no copy has become `Changed`
abbrev pub settled_by : Bool → Fate → Fate
settled_by false fate.Done = fate.Done
settled_by false fate.Failed = fate.Failed
settled_by false fate.Conflict = fate.Conflict
settled_by false fate.Skipped = fate.Changed
settled_by false fate.ParentFailed = fate.ParentFailed
settled_by false fate.Changed = fate.Changed
settled_by false fate.NotEmpty = fate.Changed
settled_by false fate.TooLong = fate.Changed
settled_by true fate.Done = fate.Skipped
settled_by true fate.Failed = fate.Skipped
settled_by true fate.Conflict = fate.Skipped
settled_by true fate.Skipped = fate.Skipped
settled_by true fate.ParentFailed = fate.ParentFailed
settled_by true fate.Changed = fate.Skipped
settled_by true fate.NotEmpty = fate.Skipped
settled_by true fate.TooLong = fate.Skipped

abbrev pub settled : Entry → Fate → Fate
settled e f = settled_by (is_other e) f

-- an other node, or a link whose text is not known, with the fate `Done`, which no copy gives
abbrev pub is_odd : Entry → Fate → Bool
is_odd e f = is_done f && (is_other e || is_untold e)

-- the first fate, and if none is left, one that is never read
abbrev pub first_of : List Fate → Fate
first_of [] = fate.Skipped
first_of (f ∷ fates) = f

abbrev pub rest_of : List Fate → List Fate
rest_of [] = []
rest_of (f ∷ fates) = fates

-- the fates of entries: those without room are too long, and the others have the fates of the items, in their order
abbrev pub fates_of : List Bool → List Entry → List Fate → List Fate
fates_of [] es fates = []
fates_of (fit ∷ fits) [] fates = []
fates_of (true ∷ fits) (e ∷ es) fates = settled e (first_of fates) ∷ fates_of fits es (rest_of fates)
fates_of (false ∷ fits) (e ∷ es) fates = fate.TooLong ∷ fates_of fits es fates

-- no item is odd
abbrev pub any_odd : List Bool → List Entry → List Fate → Bool
any_odd [] es fates = false
any_odd (fit ∷ fits) [] fates = false
any_odd (true ∷ fits) (e ∷ es) fates = is_odd e (first_of fates) || any_odd fits es (rest_of fates)
any_odd (false ∷ fits) (e ∷ es) fates = any_odd fits es fates

-- the bytes of an entry that is copied
abbrev pub gain : Entry → Fate → ℕ
gain e f = if is_done f then bytes_by e.stat else 0

abbrev pub bytes_of : List Entry → List Fate → ℕ
bytes_of [] fates = 0
bytes_of (e ∷ es) [] = 0
bytes_of (e ∷ es) (f ∷ fates) = gain e f + bytes_of es fates

-- the paths of the entries that have items
abbrev pub fitting : List Bool → List (List ℕ) → List (List ℕ)
fitting [] paths = []
fitting (fit ∷ fits) [] = []
fitting (true ∷ fits) (path ∷ paths) = path ∷ fitting fits paths
fitting (false ∷ fits) (path ∷ paths) = fitting fits paths
