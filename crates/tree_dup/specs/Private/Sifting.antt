-- How far the candidates of a list are divided. Our own.
-- Only clauses of this crate's own functions cite this file.
use Rattle.std.specs.Prelude.{◌≡◌, ℕ, ◌+◌, ◌<◌, ◌≤◌, true, false, ◌&&◌, List, [], ◌++◌, length, map, take, Option, IfSome, All, nat_eq}
use Rattle.std.specs.List.{count_by}
use Rattle.std.specs.List.Sorted.{IsSorted}
use Rattle.std.specs.FinMap.{get}
use Rattle.std.specs.Cmp.Lexicographic.{pointwise}
use Rattle.sha2.specs.Sha256.{sha256}
use Rattle.path_text.specs.Order.{path_cmp}
use Rattle.outside.specs.Asked.{Asks}
use Rattle.outside.specs.Tree.{Files, content}
use Rattle.entry_pages.specs.declared.entries.Entry.{Entry}
use Rattle.shared_reads.specs.Counts.{KeepsUp}
use Rattle.tree_dup.specs.Told.{Told, Grouping}
use Rattle.tree_dup.specs.Grouping.{HaveCauses, has, is_candidate, is_read, is_sized}
use Rattle.tree_dup.specs.declared.runs.File.{File}
use Rattle.tree_dup.specs.Private.Hashing.{content_hash}
use Rattle.tree_dup.specs.Private.Piles.{times, times_in, joints_in}
use Rattle.tree_dup.specs.Private.Running.{IsThere, paths_of}

-- how often a path stands among the candidates of a list, as far as some of its entries
abbrev pub candidates_in : List Entry → List Entry → List ℕ → ℕ
candidates_in list part p = count_by (λ e. pointwise nat_eq p e.path && is_candidate list e) part

-- how often a path was missed
abbrev pub misses : Grouping → List ℕ → ℕ
misses found p = times p found.failed + times p found.changed

-- the paths of all groups
abbrev pub piles_of : List Told → List (List (List ℕ))
piles_of groups = map (λ g. g.paths) groups

-- what is known of a file before it is divided from others
pub record IsHashed (tree : Option Files) (list : List Entry) (f : File) : Type 0 where
  pub sized : has (is_sized f.size) list f.path ≡ true
  pub read : 0 < f.size → has (is_read list) list f.path ≡ true
  pub there : IfSome tree (λ files. IsThere files f)
  pub hash : IfSome tree (λ files. f.hash ≡ content_hash (content (get files f.path)))

-- all paths have these bytes
pub record HaveBytes (files : Files) (sum : List ℕ) (paths : List (List ℕ)) : Type 0 where
  pub bytes : List ℕ
  pub same : All (λ p. content (get files p) ≡ bytes) paths
  pub digest : sum ≡ sha256 bytes

-- a group that is made
pub record IsMade (tree : Option Files) (list : List Entry) (g : Told) : Type 0 where
  pub some : 2 ≤ length g.paths
  pub sorted : IsSorted path_cmp g.paths
  pub sizes : All (λ p. has (is_sized g.size) list p ≡ true) g.paths
  pub told : IfSome tree (λ files. HaveBytes files g.digest g.paths)

-- what was missed so far
pub record AreMissed (tree : Option Files) (list : List Entry) (found : Grouping) : Type 0 where
  pub failed : All (λ p. has (is_read list) list p ≡ true) found.failed
  pub changed : All (λ p. has (is_read list) list p ≡ true) found.changed
  pub unchanged : IfSome tree (λ files. found.changed ≡ [])

-- two candidates that were not missed, and whose bytes are equal, stand in one pile
abbrev pub IsUndivided : List Entry → (List ℕ → ℕ) → List (List (List ℕ)) → Files → Type 0
IsUndivided list missed piles files = (p q : List ℕ) → 0 < candidates_in list list p → 0 < candidates_in list list q → missed p ≡ 0 → missed q ≡ 0 →
    pointwise nat_eq p q ≡ false → content (get files p) ≡ content (get files q) → 0 < joints_in p q piles

-- the candidates stand in groups, in piles that are not divided yet, or among the missed, or they have bytes of their own
pub record AreSifted (tree : Option Files) (list : List Entry) (whole : List (List File)) (found : Grouping) : Type 0 where
  pub hashed : All (λ pile. All (IsHashed tree list) pile) whole
  pub missed : AreMissed tree list found
  pub made : All (IsMade tree list) found.groups
  pub once : (p : List ℕ) → times_in p (piles_of found.groups ++ map paths_of whole) + misses found p ≤ candidates_in list list p
  pub undivided : IfSome tree (IsUndivided list (misses found) (piles_of found.groups ++ map paths_of whole))

-- what is known of a candidate before it is read
pub record IsListed (tree : Option Files) (list : List Entry) (f : File) : Type 0 where
  pub sized : has (is_sized f.size) list f.path ≡ true
  pub read : 0 < f.size → has (is_read list) list f.path ≡ true
  pub there : IfSome tree (λ files. IsThere files f)

-- the candidates among the first entries of a list
pub record AreListed (tree : Option Files) (list : List Entry) (at : ℕ) (files : List File) : Type 0 where
  pub listed : All (IsListed tree list) files
  pub all : (p : List ℕ) → times p (paths_of files) ≡ candidates_in list (take at list) p

-- the candidates of a list are hashed, or were missed
pub record AreHashed (tree : Option Files) (list : List Entry) (files : List File) (found : Grouping) : Type 0 where
  pub hashed : All (IsHashed tree list) files
  pub missed : AreMissed tree list found
  pub none : found.groups ≡ []
  pub all : (p : List ℕ) → times p (paths_of files) + misses found p ≡ candidates_in list list p

-- a reader read on while files were divided. Workers told so many failed reads that were still to be named before, and so many after
pub record ReadOn {R : Type 0} (tree : R → Option Files) (count : R → ℕ) (gives : Asks R) (before after : ℕ) (r r' : R) (found found' : Grouping)
    : Type 0 where
  pub same : tree r' ≡ tree r
  pub counted : KeepsUp (length found.failed + before) (length found'.failed + after) (count r) (count r')
  pub causes : HaveCauses gives found → HaveCauses gives found'
