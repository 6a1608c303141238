-- Files of equal content. The definition divides by bytes alone: no digest and no piece decides. Our own.
use Rattle.std.specs.Prelude.{◌≡◌, ℕ, ◌+◌, ◌<◌, ◌≤◌, Bool, true, false, not, ◌&&◌, ◌==◌, List, [], ◌∷◌, ◌++◌, length, map, Option}
use Rattle.std.specs.Prelude.{IfSome, All, nat_eq, nat_lt}
use Rattle.std.specs.FinMap.{get}
use Rattle.std.specs.List.{list_any, count_by}
use Rattle.std.specs.List.Sorted.{IsStrictlySortedBy}
use Rattle.std.specs.Cmp.Lexicographic.{pointwise}
use Rattle.sha2.specs.Sha256.{sha256}
use Rattle.path_text.specs.Order.{path_cmp}
use Rattle.outside.specs.Asked.{Asks}
use Rattle.outside.specs.Tree.{Files, content}
use Rattle.outside.specs.declared.trees.Kind.TheVariants as kind
use Rattle.entry_pages.specs.declared.entries.Entry.{Entry}
use Rattle.entry_pages.specs.Entries.{is_of, size_by}
use Rattle.tree_cmp.specs.Readers.{ShowsFailure, ShowsChange}
pub use Rattle.tree_cmp.specs.Readers.{ShowsWhole}
use Rattle.tree_dup.specs.Told.{Told, Grouping}

-- ---- which files are looked at

-- a file of so many bytes
abbrev pub is_sized : ℕ → Entry → Bool
is_sized size e = is_of kind.File e.stat && size_by e.stat == size

-- a file that shares its size with another one of the list
abbrev pub is_candidate : List Entry → Entry → Bool
is_candidate list e = is_of kind.File e.stat && nat_lt 1 (count_by (is_sized (size_by e.stat)) list)

-- a candidate with some bytes
abbrev pub is_read : List Entry → Entry → Bool
is_read list e = is_candidate list e && not (size_by e.stat == 0)

-- the list has an entry at the path, which passes
abbrev pub has : (Entry → Bool) → List Entry → List ℕ → Bool
has test list p = list_any (λ e. pointwise nat_eq p e.path && test e) list

-- a read of the file gave nothing
abbrev pub is_missed : Grouping → List ℕ → Bool
is_missed found p = list_any (pointwise nat_eq p) (found.failed ++ found.changed)

-- a candidate of which no read gave nothing
abbrev pub is_kept : List Entry → Grouping → List ℕ → Bool
is_kept list found p = has (is_candidate list) list p && not (is_missed found p)

-- ---- groups

abbrev pub is_in : List ℕ → Told → Bool
is_in p g = list_any (pointwise nat_eq p) g.paths

-- two paths stand in one group
abbrev pub are_together : List Told → List ℕ → List ℕ → Bool
are_together groups p q = list_any (λ g. is_in p g && is_in q g) groups

abbrev pub first : List (List ℕ) → List ℕ
first [] = []
first (p ∷ ps) = p

abbrev pub first_path : Told → List ℕ
first_path g = first g.paths

-- two files or more, in path order, each of the group's size
pub record IsGroup (list : List Entry) (found : Grouping) (g : Told) : Type 0 where
  pub some : 2 ≤ length g.paths
  pub ascend : IsStrictlySortedBy path_cmp g.paths
  pub kept : All (λ p. is_kept list found p ≡ true) g.paths
  pub sizes : All (λ p. has (is_sized g.size) list p ≡ true) g.paths

abbrev pub same_bytes : Files → List ℕ → List ℕ → Bool
same_bytes files p q = pointwise nat_eq (content (get files p)) (content (get files q))

-- the groups, if the files tell their tree
pub record IsByBytes (list : List Entry) (found : Grouping) (files : Files) : Type 0 where
  -- two files are in one group exactly if their bytes are equal
  pub equal : (p q : List ℕ) → is_kept list found p ≡ true → is_kept list found q ≡ true → pointwise nat_eq p q ≡ false →
      are_together found.groups p q ≡ same_bytes files p q
  -- and a group has their digest
  pub digests : All (λ g. All (λ p. g.digest ≡ sha256 (content (get files p))) g.paths) found.groups
  -- files that tell their tree do not change
  pub unchanged : found.changed ≡ []

-- the grouping of the files of a list, over files that may tell their tree
pub record IsGrouping (tree : Option Files) (list : List Entry) (found : Grouping) : Type 0 where
  -- the files that were missed are in path order, each path once, and were to be read
  pub failed_ascend : IsStrictlySortedBy path_cmp found.failed
  pub changed_ascend : IsStrictlySortedBy path_cmp found.changed
  pub apart : All (λ p. list_any (pointwise nat_eq p) found.changed ≡ false) found.failed
  pub to_be_read : All (λ p. has (is_read list) list p ≡ true) (found.failed ++ found.changed)
  -- each path is in one group at most, and the groups are in the order of their first paths
  pub each : All (IsGroup list found) found.groups
  pub once : (p : List ℕ) → count_by (is_in p) found.groups ≤ 1
  pub order : IsStrictlySortedBy path_cmp (map first_path found.groups)
  pub told : IfSome tree (IsByBytes list found)

-- each file of a group that has bytes was read up to its size, so one whose read ended early is not in it
abbrev pub AreWhole : {S : Type 0} → Asks S → Told → Type 0
AreWhole gives g = 0 < g.size → All (ShowsWhole gives g.size) g.paths

-- a read asked for each file that is named as failed or changed at this very path, and got that answer; a file of a group was read whole
pub record HaveCauses {S : Type 0} (gives : Asks S) (found : Grouping) : Type 0 where
  pub failed : All (ShowsFailure gives) found.failed
  pub changed : All (ShowsChange gives) found.changed
  pub whole : All (AreWhole gives) found.groups
