-- A tree of files: a finite map from paths to nodes. Our own, after the tree of a file system.
use Rattle.std.specs.Prelude.{◌≡◌, ℕ, ◌-◌, ◌<◌, ◌≤◌, Bool, true, false, not, ◌&&◌, ◌||◌, List, [], ◌∷◌, length, take, drop, if◌then◌else◌, ◌==◌}
use Rattle.std.specs.Prelude.{Option, Some, None, IsTrue, nat_eq, is_none, is_some}
use Rattle.std.specs.List.{starts_with, list_any, filter_map, All}
use Rattle.std.specs.FinMap.{FinMap, get, keys}
use Rattle.std.specs.List.Sorted.{IsStrictlySortedBy}
use Rattle.std.specs.Cmp.Lexicographic.{slice_cmp, pointwise}
use Rattle.std.specs.Ordering.{nat_cmp}
use Rattle.std.specs.Option.{option_map}
use mathlib.Core.Bool.{Bool-set}
use Rattle.path_text.specs.Order.{path_cmp, front}
use Rattle.path_text.specs.Path.{is_slash, refusal, joined, is_name, parent_of}
use Rattle.outside.specs.declared.trees.Kind.{Kind}
use Rattle.outside.specs.declared.trees.Kind.TheVariants as kind
use Rattle.outside.specs.declared.trees.Stat.{Stat}

-- the body of a node: a directory with the number of children whose path is too long, a file with its bytes, a link with its
-- text, or another
pub data Body : Type 0 where
  dir : ℕ → Body
  file : List ℕ → Body
  link : List ℕ → Body
  other : Body

pub record Node : Type 0 where
  pub body : Body
  pub mtime : Option ℕ

-- the nodes by their paths
abbrev pub Files : Type 0
Files = FinMap path_cmp Node

abbrev pub is_dir_body : Body → Bool
is_dir_body (dir far) = true
is_dir_body (file bytes) = false
is_dir_body (link text) = false
is_dir_body other = false

abbrev pub is_dir : Option Node → Bool
is_dir None = false
is_dir (Some n) = is_dir_body n.body

-- some bytes, and no slash among them
abbrev pub is_one_name : List ℕ → Bool
is_one_name name = not (length name == 0) && not (list_any is_slash name)

-- the name of q, if q is a child of the path
abbrev pub name_below : List ℕ → List ℕ → Option (List ℕ)
name_below path q =
    let name = drop (length (front path)) q in
    if starts_with nat_eq q (front path) && is_one_name name then Some name else None

-- the names of the children of a directory, in byte order
abbrev pub names_in : Files → List ℕ → List (List ℕ)
names_in files path = filter_map (name_below path) (keys files)

abbrev pub kind_of : Body → Kind
kind_of (dir far) = kind.Dir
kind_of (file bytes) = kind.File
kind_of (link text) = kind.Link
kind_of other = kind.Other

abbrev pub size_of : Body → ℕ
size_of (dir far) = 0
size_of (file bytes) = length bytes
size_of (link text) = 0
size_of other = 0

abbrev pub far_of : Body → ℕ
far_of (dir far) = far
far_of (file bytes) = 0
far_of (link text) = 0
far_of other = 0

-- of a file: its bytes
abbrev pub bytes_of : Body → List ℕ
bytes_of (dir far) = []
bytes_of (file bytes) = bytes
bytes_of (link text) = []
bytes_of other = []

abbrev pub is_file_body : Body → Bool
is_file_body (dir far) = false
is_file_body (file bytes) = true
is_file_body (link text) = false
is_file_body other = false

abbrev pub is_file : Option Node → Bool
is_file None = false
is_file (Some n) = is_file_body n.body

-- of a link: its text
abbrev pub text_of : Body → Option (List ℕ)
text_of (dir far) = None
text_of (file bytes) = None
text_of (link text) = Some text
text_of other = None

abbrev pub link_at : Option Node → Option (List ℕ)
link_at None = None
link_at (Some n) = text_of n.body

abbrev pub content : Option Node → List ℕ
content None = []
content (Some n) = bytes_of n.body

abbrev pub far_at : Option Node → ℕ
far_at None = 0
far_at (Some n) = far_of n.body

-- the answer of `stat` for a node
abbrev pub stat_of : Node → Stat
stat_of n = record { kind = kind_of n.body; size = size_of n.body; mtime = n.mtime }

-- a listing of the directory at the path
pub record Lists (files : Files) (path : List ℕ) (listing : List (List ℕ) × ℕ × ℕ) : Type 0 where
  pub is_dir : is_dir (get files path) ≡ true
  pub names : listing.0 ≡ names_in files path
  pub far : Some listing.2 ≡ option_map (λ n. far_of n.body) (get files path)

-- n bytes of the file at a path, from the offset `at` on, fill the front of a buffer: at least one, if neither is at its end
pub record Reads (files : Files) (path : List ℕ) (at : ℕ) (buffer : List ℕ) (n : ℕ) : Type 0 where
  pub is_file : is_file (get files path) ≡ true
  pub same : take n buffer ≡ take n (drop at (content (get files path)))
  pub inside : n ≤ length (content (get files path)) - at
  pub some : at < length (content (get files path)) → 0 < length buffer → 0 < n

-- distinct valid names in ascending order, each giving a path that is not too long
pub record AreNames (path : List ℕ) (names : List (List ℕ)) : Type 0 where
  pub valid : All (λ name. IsTrue (is_name name)) names
  pub short : All (λ name. length (joined path name) ≤ 4095) names
  pub ascend : IsStrictlySortedBy (slice_cmp nat_cmp) names

abbrev pub is_root : List ℕ → Bool
is_root path = pointwise nat_eq path (47 ∷ [])

-- `/` is a directory; if a node is at another path, the path is valid, and its parent is a directory
abbrev pub is_placed : Files → List ℕ → Bool
is_placed files path =
    if is_root path then is_dir (get files path)
    else is_none (get files path) || (is_none (refusal path) && is_dir (get files (parent_of path)))

-- the laws of every tree
unfoldable pub IsTree : Files → Type 0
IsTree files = (path : List ℕ) → IsTrue (is_placed files path)

pub IsTree-prop : (files : Files) → IsProp (IsTree files)
unfolding IsTree
IsTree-prop files = hlevel (Bool-set)

-- in every tree a path that has a node is valid
abbrev pub NodesHavePaths : Type 0
NodesHavePaths = (files : Files) (path : List ℕ) → IsTree files → is_none (get files path) ≡ false → refusal path ≡ None

-- a path other than `/` is a child of its parent
abbrev pub ChildrenHaveParents : Type 0
ChildrenHaveParents = (path : List ℕ) → refusal path ≡ None → is_root path ≡ false → is_some (name_below (parent_of path) path) ≡ true

-- in every tree the names of the children of a path are valid and ascend, and each gives a path that is not too long
abbrev pub ChildrenAreNames : Type 0
ChildrenAreNames = (files : Files) (path : List ℕ) → IsTree files → AreNames path (names_in files path)
