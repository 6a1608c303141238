-- Files in memory: the tree, the calls that are planned to fail in it, and how often it has failed. Our own.
use Rattle.std.specs.Prelude.{◌≡◌, ℕ, ◌-◌, min, length, take, drop, true, false, Bool, ◌||◌, Result, Ok, Err, List, [], ◌∷◌, ◌++◌, Option, Some, None}
use Rattle.std.specs.Prelude.{if◌then◌else◌, is_some, refl}
use Rattle.std.specs.Coded.{Coded, code_by, coded×, coded_ℕ}
use Rattle.std.specs.FinMap.{get, insert, empty}
use Rattle.outside.specs.Tree.{Files, Node, Body, dir, file, link, other, is_dir, is_file, content}
use Rattle.path_text.specs.Path.{parent_of}
use Rattle.outside.specs.Codes.{files_code, area_code}
use Rattle.outside.specs.Writes.{Area}
use Rattle.outside.specs.Count.{capped}
use Rattle.files_mem.specs.declared.plans.Call.{Call}
use Rattle.files_mem.specs.declared.errors.PutError.{PutError}
use Rattle.files_mem.specs.declared.errors.PutError.TheVariants as put
use Rattle.outside.specs.declared.plots.WriteError.{WriteError}
use Rattle.outside.specs.declared.plots.WriteError.TheVariants as write
use Rattle.files_mem.specs.Planned.{planned_code, is_planned}

-- the nodes by their paths, the calls that are planned to fail, the count of faults, and where it may be written
pub record Memory : Type 0 where
  pub files : Files
  pub planned : List (Call × List ℕ)
  pub count : ℕ
  pub area : Area

abbrev pub memory_code : Coded Memory
memory_code =
    code_by (Files × (List (Call × List ℕ) × (ℕ × Area))) (coded× files_code (coded× planned_code (coded× coded_ℕ area_code)))
    (λ m. (m.files, (m.planned, (m.count, m.area)))) (λ p. record { files = p.0; planned = p.1.0; count = p.1.1.0; area = p.1.1.1 }) (λ _. refl)

-- nothing but `/`, a directory without a time
abbrev pub empty_files : Files
empty_files = insert empty (47 ∷ []) (record { body = dir 0; mtime = None })

-- as it is once it has answered: a call that was planned to fail is counted
abbrev pub answered : Bool → Memory → Memory
answered planned m = if planned then record m { count = capped m.count 1 } else m

-- with a node at the path
abbrev pub with_node : Memory → List ℕ → Node → Memory
with_node m path node = record m { files = insert m.files path node }

-- with one more call that is planned to fail
abbrev pub with_planned : Memory → Call → List ℕ → Memory
with_planned m call path = record m { planned = m.planned ++ (call, path) ∷ [] }

-- why no node can be put at the path
abbrev pub put_refusal : Files → List ℕ → Option PutError
put_refusal files path =
    if is_some (get files path) then Some put.Exists
    else if is_dir (get files (parent_of path)) then None
    else Some put.NoParent

-- the same of a part, of which the path may be a top: the parent of a top is a directory
abbrev pub put_refusal_at : Bool → Files → List ℕ → Option PutError
put_refusal_at top files path =
    if is_some (get files path) then Some put.Exists
    else if top || is_dir (get files (parent_of path)) then None
    else Some put.NoParent

-- the refusal of a call that writes, where putting is refused so
abbrev pub write_error : PutError → WriteError
write_error put.Exists = write.Exists
write_error put.NoParent = write.NoParent
write_error put.OutOfMemory = write.OutOfMemory

-- of a directory the number of children whose path is too long
abbrev pub body_far : Body → Option ℕ
body_far (dir far) = Some far
body_far (file bytes) = None
body_far (link text) = None
body_far other = None

abbrev pub dir_far : Option Node → Option ℕ
dir_far None = None
dir_far (Some n) = body_far n.body

-- a buffer takes the file's bytes from a place on, as many as are there and fit; after them it is as before
pub record FillsFrom (node : Option Node) (at : ℕ) (old new : List ℕ) (n : ℕ) : Type 0 where
  pub is_file : is_file node ≡ true
  pub many : n ≡ min (length old) (length (content node) - at)
  pub whole : new ≡ take n (drop at (content node)) ++ drop n old

-- The answer of a call that writes, and the files after it: it is refused as `refusal` says, and else makes `after` of the files.
-- It fails exactly if that is planned, and counts that. Else only out of memory may take the place of an answer.
abbrev pub Acts : Call → List ℕ → Option WriteError → Files → Memory → Result (Unit {0}) WriteError → Memory → Type 0
Acts call path refusal after before (Ok _) new = (is_planned call path before.planned ≡ false) × ((refusal ≡ None) × (new ≡ record before { files = after }))
Acts call path refusal after before (Err write.Failed) new = (is_planned call path before.planned ≡ true) × (new ≡ answered true before)
Acts call path refusal after before (Err write.OutOfMemory) new = (is_planned call path before.planned ≡ false) × (new ≡ before)
Acts call path refusal after before (Err write.Exists) new = (is_planned call path before.planned ≡ false) × ((refusal ≡ Some write.Exists) × (new ≡ before))
Acts call path refusal after before (Err write.NoParent) new = (is_planned call path before.planned ≡ false)
    × ((refusal ≡ Some write.NoParent) × (new ≡ before))
Acts call path refusal after before (Err write.Absent) new = (is_planned call path before.planned ≡ false) × ((refusal ≡ Some write.Absent) × (new ≡ before))
Acts call path refusal after before (Err write.WrongKind) new = (is_planned call path before.planned ≡ false)
    × ((refusal ≡ Some write.WrongKind) × (new ≡ before))
Acts call path refusal after before (Err write.NotEmpty) new = (is_planned call path before.planned ≡ false)
    × ((refusal ≡ Some write.NotEmpty) × (new ≡ before))
