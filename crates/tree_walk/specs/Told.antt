-- The facts of the walked tree that the entries of a walk give. That each has a stat is after mpiFileUtils' flat lists; the rest
-- is our own.
use Rattle.std.specs.Prelude.{◌≡◌, ℕ, Bool, ◌&&◌, ◌||◌, true, false, List, Option, None, is_some, nat_eq, All}
use Rattle.std.specs.List.{flat_map, list_any, Contains}
use Rattle.std.specs.Cmp.Lexicographic.{pointwise}
use Rattle.std.specs.Option.{option_map}
use Rattle.std.specs.FinMap.{get}
use Rattle.path_text.specs.Path.{refusal, parent_of}
use Rattle.outside.specs.Tree.{Files, Node, IsTree, is_dir, is_root, far_at, link_at, stat_of}
use Rattle.outside.specs.declared.trees.Kind.TheVariants as kind
use Rattle.outside.specs.declared.trees.Stat.{Stat}
use Rattle.entry_pages.specs.declared.entries.Entry.{Entry}
use Rattle.entry_pages.specs.declared.entries.Mark.{Mark}
use Rattle.entry_pages.specs.declared.entries.Mark.TheVariants as mark
use Rattle.entry_pages.specs.Entries.{is_of}
use Rattle.tree_walk.specs.Walk.{Answers, entry_of, walk}
use Rattle.tree_walk.specs.Roots.{Apart}

-- the stat of an entry with this mark, where this node or none is at its path: the node's, but none where the stat failed
abbrev pub stat_by : Mark → Option Node → Option Stat
stat_by mark.StatFailed found = None
stat_by mark.Gone found = option_map stat_of found
stat_by mark.Fine found = option_map stat_of found
stat_by mark.ListFailed found = option_map stat_of found
stat_by mark.Changed found = option_map stat_of found

-- an entry with this mark says this of its path. No entry of a walk tells of a change, since the tree is as it was
abbrev pub StandsBy : Mark → Option Node → Type 0
StandsBy mark.StatFailed found = Unit {0}
StandsBy mark.Gone found = found ≡ None
StandsBy mark.Fine found = is_some found ≡ true
StandsBy mark.ListFailed found = is_dir found ≡ true
StandsBy mark.Changed found = ⊥

-- how many children with too long a path an entry with this mark tells: those of the node, where it was listed
abbrev pub far_by : Mark → Option Node → ℕ
far_by mark.Fine found = far_at found
far_by mark.StatFailed found = 0
far_by mark.ListFailed found = 0
far_by mark.Gone found = 0
far_by mark.Changed found = 0

-- the target of an entry with this mark: a link's text, where it was read
abbrev pub target_by : Mark → Option Node → Option (List ℕ)
target_by mark.Fine found = link_at found
target_by mark.StatFailed found = None
target_by mark.ListFailed found = None
target_by mark.Gone found = None
target_by mark.Changed found = None

-- an entry tells the truth of the tree at its path
pub record IsTold (files : Files) (a : Answers) (e : Entry) : Type 0 where
  -- it is the entry of its path
  pub own : e ≡ entry_of (a e.path) (get files e.path) e.path
  -- so where its stat did not fail it has the stat of the node there, with its kind, size and time
  pub stat : e.stat ≡ stat_by e.mark (get files e.path)
  -- and the statement of its mark holds
  pub stands : StandsBy e.mark (get files e.path)
  pub far : e.far ≡ far_by e.mark (get files e.path)
  pub target : e.target ≡ target_by e.mark (get files e.path)

-- each entry of a walk, and of the walks of several roots, tells the truth of the tree at its path
pub record EntriesAreTold : Type 0 where
  pub of_one : (files : Files) (a : Answers) (root : List ℕ) → All (IsTold files a) (walk files a root)
  pub of_all : (files : Files) (a : Answers) (roots : List (List ℕ)) → All (IsTold files a) (flat_map (walk files a) roots)

-- each entry whose parent has an entry too stands in a directory that was listed
abbrev pub StandInListed : List Entry → Type 0
StandInListed list =
    (e parent : Entry) → Contains list e → Contains list parent → is_root e.path ≡ false → parent.path ≡ parent_of e.path →
    (is_of kind.Dir parent.stat ≡ true) × (parent.mark ≡ mark.Fine)

-- so it is in the walks of roots that are apart
abbrev pub ParentsAreListed : Type 0
ParentsAreListed =
    (files : Files) (a : Answers) (roots : List (List ℕ)) → IsTree files → All (λ root. refusal root ≡ None) roots → Apart roots →
    StandInListed (flat_map (walk files a) roots)

-- the list has an entry of the path that tells a directory
abbrev pub has_dir : List Entry → List ℕ → Bool
has_dir list q = list_any (λ e. pointwise nat_eq q e.path && is_of kind.Dir e.stat) list

-- each entry of the walks of several roots is that of a root, or the list has its directory too
abbrev pub EntriesHaveParents : Type 0
EntriesHaveParents =
    (files : Files) (a : Answers) (roots : List (List ℕ)) → IsTree files →
    All (λ e. (list_any (pointwise nat_eq e.path) roots || has_dir (flat_map (walk files a) roots) (parent_of e.path)) ≡ true) (flat_map (walk files a) roots)
