-- Where files may be written, and for each call that writes its answer and the files after it. Our own, after the calls of a
-- file system.
use Rattle.std.specs.Prelude.{◌≡◌, ℕ, ◌+◌, ◌≤◌, Bool, true, false, not, ◌&&◌, ◌||◌, List, [], ◌∷◌, ◌++◌, length, map, take, drop, if◌then◌else◌, ◌==◌}
use Rattle.std.specs.Prelude.{Option, Some, None, IfSome, is_some, is_none, nat_eq, Result, Ok, Err}
use Rattle.std.specs.List.{list_any, list_all}
use Rattle.std.specs.FinMap.{get, insert}
use Rattle.std.specs.Cmp.Lexicographic.{pointwise}
use Rattle.path_text.specs.Order.{is_within}
use Rattle.path_text.specs.Path.{parent_of}
use Rattle.outside.specs.Tree.{Files, Node, dir, file, link, is_dir, is_root, names_in, is_file, content, far_at}
use Rattle.outside.specs.declared.plots.WriteError.{WriteError}
use Rattle.outside.specs.declared.plots.WriteError.TheVariants as e

-- a file that is out in spans: its path, and where it was cut
pub record Cut : Type 0 where
  pub path : List ℕ
  pub cuts : List ℕ

-- where an object may write: everywhere but at, under and over the tops of parts that are out and files that are out in spans; or
-- at and under its own tops
pub data Area : Type 0 where
  all_but : List (List (List ℕ)) → List Cut → Area
  under : List (List ℕ) → Area

-- nothing is out
abbrev pub nothing_lent : Area
nothing_lent = all_but [] []

-- the tops of all that is out; the top of a file in spans is its path
abbrev pub all_out : List (List (List ℕ)) → List Cut → List (List (List ℕ))
all_out lent cut = map (λ c. c.path ∷ []) cut ++ lent

-- the path is neither a top, nor under one, nor over one
abbrev pub is_apart : List ℕ → List (List ℕ) → Bool
is_apart path tops = list_all (λ top. not (is_within path top || is_within top path)) tops

abbrev pub in_area : Area → List ℕ → Bool
in_area (all_but lent cut) path = list_all (is_apart path) (all_out lent cut)
in_area (under tops) path = list_any (is_within path) tops

-- a path that a call may name
abbrev pub is_open : Area → List ℕ → Bool
is_open area path = in_area area path && not (is_root path)

abbrev pub is_top : Area → List ℕ → Bool
is_top (all_but lent cut) path = false
is_top (under tops) path = list_any (λ top. pointwise nat_eq top path) tops

-- why no node can be made at the path. Over a top of its own an object has a directory
abbrev pub make_refusal : Area → Files → List ℕ → Option WriteError
make_refusal area files path =
    if is_some (get files path) then Some e.Exists
    else if is_top area path || is_dir (get files (parent_of path)) then None
    else Some e.NoParent

-- why bytes cannot be written to a node
abbrev pub write_refusal : Option Node → Option WriteError
write_refusal node = if is_none node then Some e.Absent else if is_file node then None else Some e.WrongKind

-- why a node cannot be removed as one that is not a directory
abbrev pub remove_file_refusal : Option Node → Option WriteError
remove_file_refusal node = if is_none node then Some e.Absent else if is_dir node then Some e.WrongKind else None

-- why the node at the path cannot be removed as an empty directory. Children whose path is too long count too
abbrev pub remove_dir_refusal : Files → List ℕ → Option WriteError
remove_dir_refusal files path =
    if is_none (get files path) then Some e.Absent
    else if not (is_dir (get files path)) then Some e.WrongKind
    else if length (names_in files path) == 0 && far_at (get files path) == 0 then None
    else Some e.NotEmpty

abbrev pub empty_dir : Node
empty_dir = record { body = dir 0; mtime = None }

-- a file as it is made, without a modification time
abbrev pub new_file : List ℕ → Node
new_file bytes = record { body = file bytes; mtime = None }

-- a link as it is made, without a modification time
abbrev pub new_link : List ℕ → Node
new_link text = record { body = link text; mtime = None }

-- bytes written over those from an offset on, and past the end
abbrev pub spliced : List ℕ → ℕ → List ℕ → List ℕ
spliced old at bytes = take at old ++ bytes ++ drop (at + length bytes) old

abbrev pub time_of : Option Node → Option ℕ
time_of None = None
time_of (Some n) = n.mtime

-- the tree once bytes are written to the file at the path
abbrev pub written : Files → List ℕ → ℕ → List ℕ → Files
written files path at bytes = insert files path (record { body = file (spliced (content (get files path)) at bytes); mtime = time_of (get files path) })

-- the offset is in the file or at its end, if a file is there
abbrev pub HasPlace : ℕ → Option Node → Type 0
HasPlace at node = is_file node ≡ true → at ≤ length (content node)

-- the two trees have the same at every path but this one
abbrev pub SameBut : List ℕ → Files → Files → Type 0
SameBut path old new = (q : List ℕ) → pointwise nat_eq q path ≡ false → get new q ≡ get old q

-- the answer of a call and the tree after it: the call is refused as `refusal` says, or else makes `after` of the tree
abbrev pub Answers : List ℕ → Option WriteError → Files → Files → Result (Unit {0}) WriteError → Option Files → Type 0
Answers path refusal before after (Ok _) new = (refusal ≡ None) × (new ≡ Some after)
Answers path refusal before after (Err e.Failed) new = IfSome new (SameBut path before)
Answers path refusal before after (Err e.OutOfMemory) new = new ≡ Some before
Answers path refusal before after (Err e.Exists) new = (refusal ≡ Some e.Exists) × (new ≡ Some before)
Answers path refusal before after (Err e.NoParent) new = (refusal ≡ Some e.NoParent) × (new ≡ Some before)
Answers path refusal before after (Err e.Absent) new = (refusal ≡ Some e.Absent) × (new ≡ Some before)
Answers path refusal before after (Err e.WrongKind) new = (refusal ≡ Some e.WrongKind) × (new ≡ Some before)
Answers path refusal before after (Err e.NotEmpty) new = (refusal ≡ Some e.NotEmpty) × (new ≡ Some before)

-- the refusals that a call can have: of one that makes a node, of one that changes a node, of one that removes a directory
abbrev pub may_make : WriteError → Bool
may_make e.Failed = true
may_make e.Exists = true
may_make e.NoParent = true
may_make e.WrongKind = false
may_make e.NotEmpty = false
may_make e.Absent = false
may_make e.OutOfMemory = true

abbrev pub may_change : WriteError → Bool
may_change e.Failed = true
may_change e.Exists = false
may_change e.NoParent = false
may_change e.WrongKind = true
may_change e.NotEmpty = false
may_change e.Absent = true
may_change e.OutOfMemory = true

abbrev pub may_empty : WriteError → Bool
may_empty e.Failed = true
may_empty e.Exists = false
may_empty e.NoParent = false
may_empty e.WrongKind = true
may_empty e.NotEmpty = true
may_empty e.Absent = true
may_empty e.OutOfMemory = true
