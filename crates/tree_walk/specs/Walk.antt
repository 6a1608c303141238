-- The recursive walk of a tree of files, and the answers of it that failed. After the process step of libcircle's walk (SC 2012); the
-- failed answers are our own.
use Rattle.std.specs.Prelude.{◌≡◌, ℕ, ◌-◌, ◌≤◌, List, [], ◌∷◌, zero, suc, map, length, if◌then◌else◌, Option, Some, None, is_some, Bool, true, false}
use Rattle.std.specs.Prelude.{All, nat_eq}
use Rattle.std.specs.Cmp.Lexicographic.{pointwise}
use Rattle.std.specs.List.{flat_map, sum_by, count_by, list_any}
use Rattle.std.specs.List.Sorted.{IsStrictlySortedBy}
use Rattle.std.specs.FinMap.{get}
use Rattle.path_text.specs.Path.{joined, refusal}
use Rattle.path_text.specs.Order.{path_cmp, is_under, is_within}
use Rattle.outside.specs.Tree.{Files, Node, is_dir, is_dir_body, is_root, far_of, text_of, stat_of, names_in, IsTree}
use Rattle.entry_pages.specs.declared.entries.Entry.{Entry}
use Rattle.entry_pages.specs.declared.entries.Mark.{Mark}
use Rattle.entry_pages.specs.declared.entries.Mark.TheVariants as mark

-- how the files answered for a path: as they are, without a number of names that are not text. Or its stat or the reading of its
-- link failed. Or the listing of its names failed
pub data Answer : Type 0 where
  told : ℕ → Answer
  stat_failed : Answer
  list_failed : Answer

-- the answers of one walk
abbrev pub Answers : Type 0
Answers = List ℕ → Answer

-- the answers of a walk in which nothing fails
abbrev pub all_told : Answers
all_told path = told 0

-- an entry with no more than a mark
abbrev pub bare : List ℕ → Mark → Entry
bare path m = record { path = path; stat = None; mark = m; unnamed = 0; far = 0; target = None }

-- the entry of a node. A directory has the number of its names that are not text, and the number of its children with too long
-- a path. A link has its text
abbrev pub entry_of_node : Answer → Node → List ℕ → Entry
entry_of_node stat_failed node path = bare path mark.StatFailed
entry_of_node list_failed node path = record {
  path = path;
  stat = Some (stat_of node);
  mark = if is_dir_body node.body then mark.ListFailed else mark.Fine;
  unnamed = 0;
  far = 0;
  target = text_of node.body;
}
entry_of_node (told unnamed) node path = record {
  path = path;
  stat = Some (stat_of node);
  mark = mark.Fine;
  unnamed = if is_dir_body node.body then unnamed else 0;
  far = far_of node.body;
  target = text_of node.body;
}

-- the entry of a path
abbrev pub entry_of : Answer → Option Node → List ℕ → Entry
entry_of stat_failed found path = bare path mark.StatFailed
entry_of list_failed None path = bare path mark.Gone
entry_of (told unnamed) None path = bare path mark.Gone
entry_of list_failed (Some node) path = entry_of_node list_failed node path
entry_of (told unnamed) (Some node) path = entry_of_node (told unnamed) node path

-- the paths that the walk goes on with below a path: a directory's children, names in byte order
abbrev pub children_of : Answer → Files → List ℕ → List (List ℕ)
children_of stat_failed files path = []
children_of list_failed files path = []
children_of (told unnamed) files path = if is_dir (get files path) then map (joined path) (names_in files path) else []

-- the files answered of a path, and of its names
abbrev pub is_told : Answer → Bool
is_told stat_failed = false
is_told list_failed = false
is_told (told unnamed) = true

-- the walk of a path, at most so many levels down: its entry, and then the walk of each child
abbrev pub walk_down : ℕ → Files → Answers → List ℕ → List Entry
walk_down zero files a path = []
walk_down (suc levels) files a path = entry_of (a path) (get files path) path ∷ flat_map (walk_down levels files a) (children_of (a path) files path)

-- the walk of a path. A path has at most 4,095 bytes and a child's more than its parent's, so no walk goes further down
unfoldable pub walk : Files → Answers → List ℕ → List Entry
walk files a path = walk_down (4096 - length path) files a path

-- the answer that an entry tells
abbrev pub answer_by : Mark → ℕ → Answer
answer_by mark.StatFailed unnamed = stat_failed
answer_by mark.ListFailed unnamed = list_failed
answer_by mark.Fine unnamed = told unnamed
answer_by mark.Gone unnamed = told 0
answer_by mark.Changed unnamed = told 0

abbrev pub answer_in : Entry → Answer
answer_in e = answer_by e.mark e.unnamed

-- the answers that a list of entries tells: the failed ones are those that its entries' marks and unnamed numbers name
abbrev pub answers_in : List Entry → Answers
answers_in [] path = told 0
answers_in (e ∷ entries) path = if pointwise nat_eq e.path path then answer_in e else answers_in entries path

-- how many answers failed, an unnamed name counted as one
abbrev pub weight : Answer → ℕ
weight (told unnamed) = unnamed
weight stat_failed = 1
weight list_failed = 1

abbrev pub weight_of : Entry → ℕ
weight_of e = weight (answer_in e)

abbrev pub paths_of : List Entry → List (List ℕ)
paths_of entries = map (λ e. e.path) entries

-- the walk of a path is its entry, and then the walk of each child
abbrev pub WalkIsRecursive : Type 0
WalkIsRecursive = (files : Files) (a : Answers) (path : List ℕ) → IsTree files → refusal path ≡ None →
    walk files a path ≡ entry_of (a path) (get files path) path ∷ flat_map (walk files a) (children_of (a path) files path)

-- its paths ascend strictly in path order
abbrev pub WalkAscends : Type 0
WalkAscends = (files : Files) (a : Answers) (path : List ℕ) → IsTree files → refusal path ≡ None → IsStrictlySortedBy path_cmp (paths_of (walk files a path))

-- so each path stands in it at most once
abbrev pub WalkHasEachPathOnce : Type 0
WalkHasEachPathOnce = (files : Files) (a : Answers) (path q : List ℕ) → IsTree files → refusal path ≡ None
    → count_by (pointwise nat_eq q) (paths_of (walk files a path)) ≤ 1

-- where nothing fails and the root is there, every path is found
abbrev pub WalkFindsAll : Type 0
WalkFindsAll = (files : Files) (root : List ℕ) → IsTree files → refusal root ≡ None → is_some (get files root) ≡ true
    → All (λ e. (e.mark ≡ mark.Fine) × (e.unnamed ≡ 0)) (walk files all_told root)

-- the walk leaves out only nodes behind a failed answer. If the files answered for every path from the root to a node, the node
-- has an entry
abbrev pub WalkListsAll : Type 0
WalkListsAll = (files : Files) (a : Answers) (root q : List ℕ) → IsTree files → refusal root ≡ None → is_root root ≡ false → is_within q root ≡ true
    → is_some (get files q) ≡ true → ((p : List ℕ) → is_under q p ≡ true → is_within p root ≡ true → is_told (a p) ≡ true)
    → list_any (pointwise nat_eq q) (paths_of (walk files a root)) ≡ true

-- where no answer failed and every root is there, the entries are those of the walk in which nothing fails, and each is fine
abbrev pub WalkWithoutFaultsIsFine : Type 0
WalkWithoutFaultsIsFine = (files : Files) (roots : List (List ℕ)) (entries : List Entry) → IsTree files → All (λ root. is_some (get files root) ≡ true) roots →
    entries ≡ flat_map (walk files (answers_in entries)) roots → sum_by weight_of entries ≡ 0 →
    (entries ≡ flat_map (walk files all_told) roots) × All (λ e. (e.mark ≡ mark.Fine) × (e.unnamed ≡ 0)) entries
