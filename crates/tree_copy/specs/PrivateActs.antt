-- The answers of the steps of a copy at one path, and the nodes that they leave. Only the contracts of this crate's own parts cite
-- it.
use Rattle.std.specs.Prelude.{⊤, ◌≡◌, ◌≢◌, ◌⊎◌, ◌||◌, ℕ, ◌<◌, Bool, true, false, List, length, if◌then◌else◌, Option}
use Rattle.std.specs.Prelude.{Some, None, is_none, is_some, IfOk, IfSome, IsTrue, Result, Ok, slice_get}
use Rattle.std.specs.FinMap.{get}
use Rattle.path_text.specs.declared.errors.OutOfMemory.{OutOfMemory}
use Rattle.outside.specs.Asked.{Asks, Write, Writes}
use Rattle.outside.specs.Tree.{Files, Node, is_dir, content}
use Rattle.outside.specs.Count.{RoseBy}
use Rattle.outside.specs.Writes.{Area, SameBut, is_open, is_top, new_file}
use Rattle.outside.specs.declared.plots.WriteError.{WriteError}
use Rattle.outside.specs.declared.plots.WriteError.TheVariants as write
use Rattle.outside.specs.declared.trees.Kind.{Kind}
use Rattle.outside.specs.declared.trees.Kind.TheVariants as kind
use Rattle.outside.specs.declared.trees.Stat.{Stat}
use Rattle.entry_pages.specs.declared.entries.Entry.{Entry}
use Rattle.entry_pages.specs.Entries.{is_kind, is_of}
use Rattle.level_work.specs.Acts.{Deed, IsDone}
use Rattle.level_work.specs.declared.items.Item.{Item}
use Rattle.level_work.specs.declared.items.Fate.{Fate}
use Rattle.level_work.specs.declared.items.Fate.TheVariants as fate
use Rattle.tree_copy.specs.Causes.{EndsAt, LookMeans, ReadMeans, RefusalMeans, Shows, ShowsWhy, WasWritten}
use Rattle.tree_copy.specs.PrivateDeeds.{Differ, Holds, MakeDir, Placed, is_link}

-- the path is a top of the part, and it may write there
pub record IsOpenTop (area : Area) (path : List ℕ) : Type 0 where
  pub top : IsTrue (is_top area path)
  pub may_write : IsTrue (is_open area path)

-- a part that was written to: it tells its tree if it did before, has the same area, and has counted no less
pub record IsKept {P : Type 0} (tree : P → Option Files) (lent : P → Area) (faults : P → ℕ) (part part' : P) : Type 0 where
  pub tells : is_some (tree part') ≡ is_some (tree part)
  pub area : lent part' ≡ lent part
  pub count : RoseBy 0 (faults part) (faults part')

-- a reader that was asked, and the fate that this means: it shows the same tree, and has counted a failure
pub record HasLooked {R : Type 0} (tree : R → Option Files) (faults : R → ℕ) (reader reader' : R) (f : Fate) : Type 0 where
  pub same : tree reader' ≡ tree reader
  pub count : RoseBy 0 (faults reader) (faults reader')
  pub cause : f ≡ fate.Failed → RoseBy 1 (faults reader) (faults reader')
  pub named : f ≢ fate.ParentFailed

-- a step by a reader and a part, whatever it comes to: the reader shows the same tree, and one of the two has counted a failure
pub record Stepped {R P : Type 0} (seen : R → Option Files) (reads : R → ℕ) (tree : P → Option Files) (lent : P → Area) (writes : P → ℕ)
    (reader reader' : R) (part part' : P) (result : Result Fate OutOfMemory) : Type 0 where
  pub named : IfOk result (λ f. f ≢ fate.ParentFailed)
  pub same : seen reader' ≡ seen reader
  pub kept : IsKept tree lent writes part part'
  pub reader_count : RoseBy 0 (reads reader) (reads reader')
  pub cause : IfOk result (λ f. f ≡ fate.Failed → RoseBy 1 (writes part) (writes part') ⊎ RoseBy 1 (reads reader) (reads reader'))

-- a deed by the tree that a reader shows; if it shows none, nothing is said
abbrev pub ByReader : (Files → Deed) → Option Files → Deed
ByReader deed told path entry f before after = IfSome told (λ seen. deed seen path entry f before after)

-- a directory is made or kept, whatever the entry
abbrev pub IsDirMade : Option Files → List ℕ → Result Fate OutOfMemory → Files → Files → Type 0
IsDirMade told path result before after = (entry : Entry) → IsDone (ByReader MakeDir told) path entry result before after

-- whether a refusal says that a node is there already
abbrev pub is_taken : WriteError → Bool
is_taken write.Exists = true
is_taken _ = false

-- the fate that a refusal means, if it is one
abbrev pub told_fate : WriteError → Fate
told_fate write.Failed = fate.Failed
told_fate _ = fate.Changed

abbrev pub TellsFate : WriteError → Result Fate OutOfMemory → Type 0
TellsFate refused result = IfOk result (λ f. (f ≡ told_fate refused) × (refused ≢ write.OutOfMemory))

-- the fate that a look at a taken path means, if a node of this kind is needed
abbrev pub look_fate : Kind → Option Stat → Fate
look_fate wanted None = fate.Changed
look_fate wanted (Some stat) = if is_kind wanted stat.kind then fate.Done else fate.Conflict

-- the old node at the path is gone, and this node is there
abbrev pub MadeAnew : Node → List ℕ → Fate → Files → Files → Type 0
MadeAnew node path fate.Done before after = get after path ≡ Some node
MadeAnew node path fate.Changed before after = is_dir (get before path) ≡ true
MadeAnew node path fate.Failed before after = ⊤
MadeAnew node path fate.Conflict before after = ⊥
MadeAnew node path fate.NotEmpty before after = ⊥
MadeAnew node path fate.Skipped before after = ⊥
MadeAnew node path fate.ParentFailed before after = ⊥
MadeAnew node path fate.TooLong before after = ⊥

pub record IsReplaced (node : Node) (path : List ℕ) (result : Result Fate OutOfMemory) (before after : Files) : Type 0 where
  pub others : SameBut path before after
  pub answers : IfOk result (λ f. MadeAnew node path f before after)

pub record IsPlaced (node : Node) (is_old : Option Node → Bool) (told : Option Files) (path : List ℕ) (result : Result Fate OutOfMemory)
    (before after : Files) : Type 0 where
  pub others : SameBut path before after
  pub answers : IfOk result (λ f. IfSome told (λ seen. Placed node is_old seen path f before after))
  pub there : result ≡ Ok fate.Done → get after path ≡ Some node

-- a look showed whether a node is in the way of a link that is not made
abbrev pub Spared : Files → List ℕ → Fate → Type 0
Spared seen path fate.Conflict = (is_some (get seen path) ≡ true) × (is_link (get seen path) ≡ false)
Spared seen path fate.Changed = (get seen path ≡ None) ⊎ (is_link (get seen path) ≡ true)
Spared seen path fate.Failed = ⊤
Spared seen path fate.Done = ⊥
Spared seen path fate.NotEmpty = ⊥
Spared seen path fate.Skipped = ⊥
Spared seen path fate.ParentFailed = ⊥
Spared seen path fate.TooLong = ⊥

-- the bytes of the source were put into the file, or the source has too few
abbrev pub Filled : Files → (source path : List ℕ) → ℕ → Fate → Files → Type 0
Filled seen source path size fate.Done after = Holds seen source path size after
Filled seen source path size fate.Changed after = length (content (get seen source)) < size
Filled seen source path size fate.Failed after = ⊤
Filled seen source path size fate.Conflict after = ⊥
Filled seen source path size fate.NotEmpty after = ⊥
Filled seen source path size fate.Skipped after = ⊥
Filled seen source path size fate.ParentFailed after = ⊥
Filled seen source path size fate.TooLong after = ⊥

abbrev pub IsFilled : Files → (source path : List ℕ) → ℕ → Result Fate OutOfMemory → Files → Type 0
IsFilled seen source path size result after = IfOk result (λ f. Filled seen source path size f after)

-- a file of so many bytes is at the path
pub record HasFile (path : List ℕ) (size : ℕ) (now : Files) : Type 0 where
  pub bytes : List ℕ
  pub has : get now path ≡ Some (new_file bytes)
  pub len : length bytes ≡ size

-- the answers if a node was made in place of none or of an old one
abbrev pub ShowsPlaced : {R S : Type 0} → Asks R → Writes S → List ℕ → Entry → Kind → Write → Fate → Type 0
ShowsPlaced asks gives target e k make f =
    ((f ≡ fate.Done) × WasWritten gives target make) ⊎ ((f ≢ fate.Done) × ShowsWhy asks gives target e k f)

-- the answers if a node was made in place of an old one
abbrev pub ShowsReplaced : {S : Type 0} → Writes S → List ℕ → Write → Fate → Type 0
ShowsReplaced gives target make f = ((f ≡ fate.Done) × WasWritten gives target make) ⊎ RefusalMeans gives target f

-- the answers if a file that was made was filled
abbrev pub ShowsFilled : {R S : Type 0} → Asks R → Writes S → (source target : List ℕ) → ℕ → Fate → Type 0
ShowsFilled asks gives source target size f = ((f ≡ fate.Done) × EndsAt gives target size) ⊎ (ReadMeans asks source f ⊎ RefusalMeans gives target f)

-- the answers if a link is not made
abbrev pub ShowsSpared : {R : Type 0} → Asks R → List ℕ → Fate → Type 0
ShowsSpared asks target f =
    ((f ≢ fate.Done) × LookMeans asks target kind.Link f) ⊎ ((f ≡ fate.Changed) × LookMeans asks target kind.Link fate.Done)

-- the fates that may come to an entry: a node of the kind `Other` is skipped, and all others have evidence of their fate
abbrev pub MayCopy : {R S : Type 0} → Asks R → Writes S → List ℕ → Entry → Fate → Type 0
MayCopy asks gives target e f =
    (((is_none e.stat || is_of kind.Other e.stat) ≡ true) × (f ≡ fate.Skipped)) ⊎ Shows asks gives target e f e.stat

-- the same of all items whose parent did not fail
abbrev pub AllMayCopy : {R S : Type 0} → Asks R → Writes S → List Item → List Fate → Type 0
AllMayCopy asks gives items fates =
    (k : ℕ) (x : Item) (f : Fate) → slice_get items k ≡ Some x → slice_get fates k ≡ Some f → f ≢ fate.ParentFailed → MayCopy asks gives x.path x.entry f
