-- Whole files, loaded and saved. Our own.
use Rattle.std.specs.Prelude.{◌≡◌, ℕ, Bool, true, false, not, ◌&&◌, ◌||◌, List, Option, Some, is_none, IfSome, Result, Ok, Err}
use Rattle.std.specs.FinMap.{get, insert}
use Rattle.path_text.specs.Path.{parent_of}
use Rattle.outside.specs.Tree.{Files, Node, is_file, is_dir, is_root, content}
use Rattle.outside.specs.Writes.{new_file, SameBut}
use Rattle.outside.specs.declared.trees.ReadError.{ReadError}
use Rattle.outside.specs.declared.trees.ReadError.TheVariants as read
use Rattle.outside.specs.declared.plots.WriteError.{WriteError}
use Rattle.outside.specs.declared.plots.WriteError.TheVariants as write
use Rattle.outside.specs.declared.loading.LoadError.{LoadError}
use Rattle.outside.specs.declared.loading.LoadError.TheVariants as load
use Rattle.outside.specs.declared.saving.SaveError.{SaveError}
use Rattle.outside.specs.declared.saving.SaveError.TheVariants as e

-- the node is a file with these bytes
pub record HoldsFile (bytes : List ℕ) (node : Option Node) : Type 0 where
  pub is_file : is_file node ≡ true
  pub same : bytes ≡ content node

-- in a directory at `parent` a file can be put at the path: nothing is there, or a file
abbrev pub can_put : Files → List ℕ → List ℕ → Bool
can_put files path parent = is_dir (get files parent) && (is_none (get files path) || is_file (get files path))

-- a file can be saved at the path, which is not `/`
abbrev pub can_save : Files → List ℕ → Bool
can_save files path = not (is_root path) && can_put files path (parent_of path)

-- the answer of `save`, and the files after it
abbrev pub Saves : List ℕ → List ℕ → Files → Result (Unit {0}) SaveError → Option Files → Type 0
Saves path bytes before (Ok _) new = (can_save before path ≡ true) × (new ≡ Some (insert before path (new_file bytes)))
Saves path bytes before (Err e.NoPlace) new = (can_save before path ≡ false) × (new ≡ Some before)
Saves path bytes before (Err e.Failed) new = IfSome new (SameBut path before)
Saves path bytes before (Err e.OutOfMemory) new = IfSome new (SameBut path before)

-- the steps of saving

-- the path holds the node, and every other path is as before
pub record Holds (path : List ℕ) (node : Option Node) (before after : Files) : Type 0 where
  pub others : SameBut path before after
  pub here : get after path ≡ node

-- a file is there, or no node
pub record IsOld (old : Bool) (node : Option Node) : Type 0 where
  pub is_old : is_file node ≡ old
  pub no_other : (is_none node || is_file node) ≡ true

-- refusals of the calls that these are made of

abbrev pub load_error : ReadError → LoadError
load_error read.Failed = load.Failed
load_error read.NotFile = load.NoFile

abbrev pub save_error : WriteError → SaveError
save_error write.Failed = e.Failed
save_error write.Exists = e.NoPlace
save_error write.NoParent = e.NoPlace
save_error write.WrongKind = e.NoPlace
save_error write.NotEmpty = e.NoPlace
save_error write.Absent = e.NoPlace
save_error write.OutOfMemory = e.OutOfMemory
