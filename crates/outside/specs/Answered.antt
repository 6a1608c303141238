-- Whole files, loaded and saved, by the answers of the calls. This holds over all files, also over those that tell no tree. Which
-- answer a call may have, and which state it leaves, is a relation of the files (`gives`) of which nothing is known. So an answer
-- is named here only if a call gave it. Our own.
use Rattle.std.specs.Prelude.{◌≡◌, ℕ, ◌+◌, Bool, true, false, List, [], ◌∷◌, length, take, drop, if◌then◌else◌, Option, Some, None, ◌⊎◌, Result, Ok, Err}
use Rattle.path_text.specs.Path.{parent_of}
use Rattle.outside.specs.Asked.{Asks, Write, Writes}
use Rattle.outside.specs.Asked as asked
use Rattle.outside.specs.Tree.{is_root}
use Rattle.outside.specs.Whole.{save_error}
use Rattle.outside.specs.declared.failures.Failed.{Failed}
use Rattle.outside.specs.declared.trees.Kind.{Kind}
use Rattle.outside.specs.declared.trees.Kind.TheVariants as kind
use Rattle.outside.specs.declared.trees.Stat.{Stat}
use Rattle.outside.specs.declared.trees.ReadError.{ReadError}
use Rattle.outside.specs.declared.trees.ReadError.TheVariants as read
use Rattle.outside.specs.declared.plots.WriteError.{WriteError}
use Rattle.outside.specs.declared.loading.LoadError.{LoadError}
use Rattle.outside.specs.declared.loading.LoadError.TheVariants as load
use Rattle.outside.specs.declared.saving.SaveError.{SaveError}
use Rattle.outside.specs.declared.saving.SaveError.TheVariants as save

-- the meanings of an answer of `stat`

abbrev pub is_file_kind : Kind → Bool
is_file_kind kind.File = true
is_file_kind kind.Dir = false
is_file_kind kind.Link = false
is_file_kind kind.Other = false

abbrev pub is_dir_kind : Kind → Bool
is_dir_kind kind.File = false
is_dir_kind kind.Dir = true
is_dir_kind kind.Link = false
is_dir_kind kind.Other = false

-- of a file to load: its size
abbrev pub size_told : Result (Option Stat) Failed → Result ℕ LoadError
size_told (Ok None) = Err load.NoFile
size_told (Ok (Some stat)) = if is_file_kind stat.kind then Ok stat.size else Err load.NoFile
size_told (Err failed) = Err load.Failed

-- of the parent of a file to save: that the file can be there
abbrev pub over_told : Result (Option Stat) Failed → Result (Unit {0}) SaveError
over_told (Ok None) = Err save.NoPlace
over_told (Ok (Some stat)) = if is_dir_kind stat.kind then Ok tt else Err save.NoPlace
over_told (Err failed) = Err save.Failed

-- of the path of a file to save: whether an old file goes
abbrev pub place_told : Result (Option Stat) Failed → Result Bool SaveError
place_told (Ok None) = Ok false
place_told (Ok (Some stat)) = if is_file_kind stat.kind then Ok true else Err save.NoPlace
place_told (Err failed) = Err save.Failed

-- the calls

-- a reader's `stat` was called at the path, and its answer has this meaning
pub record StatMeans {S A : Type 0} (gives : Asks S) (path : List ℕ) (meaning : Result (Option Stat) Failed → A) (means : A)
    (before after : S) : Type 0 where
  pub answer : Result (Option Stat) Failed
  pub given : gives before (asked.stat path answer) after
  pub is_meant : meaning answer ≡ means

-- the last call was a read of the path from the offset on, which had this answer
pub record LastRead {S : Type 0} (gives : Asks S) (path : List ℕ) (at : ℕ) (answer : Result ℕ ReadError) (after : S) : Type 0 where
  pub before : S
  pub given : gives before (asked.read path at answer) after

-- loading

-- so many bytes were read from the front on, one piece after another, in pieces of these lengths, with the last one first
abbrev pub Read : {S : Type 0} → Asks S → List ℕ → List ℕ → ℕ → S → S → Type 0
Read gives path [] many before after = (many ≡ 0) × (after ≡ before)
Read {S} gives path (n ∷ pieces) many before after =
    (at : ℕ) × (mid : S) × (many ≡ at + n) × Read gives path pieces at before mid × gives mid (asked.read path at (Ok n)) after

-- so many bytes were read from the front on, in some pieces
pub record ReadFront {S : Type 0} (gives : Asks S) (path : List ℕ) (many : ℕ) (before after : S) : Type 0 where
  pub pieces : List ℕ
  pub read : Read gives path pieces many before after

-- all bytes up to the size were read, or the read after those bytes gave none
pub record FillEnded {S : Type 0} (gives : Asks S) (path : List ℕ) (size many : ℕ) (before after : S) : Type 0 where
  pub last : S
  pub read : ReadFront gives path many before last
  pub ended : ((many ≡ size) × (after ≡ last)) ⊎ gives last (asked.read path many (Ok 0)) after

-- the bytes were read one piece after another: as many as `stat` answered, or those before a read that gave none
pub record LoadEnded {S : Type 0} (gives : Asks S) (path : List ℕ) (bytes : List ℕ) (before after : S) : Type 0 where
  pub size : ℕ
  pub opened : S
  pub told : StatMeans gives path size_told (Ok size) before opened
  pub read : FillEnded gives path size (length bytes) opened after

-- why a file is not loaded. Memory is taken after `stat` has answered a file, and before any read
abbrev pub LoadStopped : {S : Type 0} → Asks S → List ℕ → S → S → LoadError → Type 0
LoadStopped gives path before after load.Failed =
    StatMeans gives path size_told (Err load.Failed) before after ⊎ ((at : ℕ) × LastRead gives path at (Err read.Failed) after)
LoadStopped gives path before after load.NoFile =
    StatMeans gives path size_told (Err load.NoFile) before after ⊎ ((at : ℕ) × LastRead gives path at (Err read.NotFile) after)
LoadStopped gives path before after load.OutOfMemory = (size : ℕ) × StatMeans gives path size_told (Ok size) before after

-- saving

-- a reader's `stat` was called at the parent and at the path, which has an old file, or none
pub record LookFound {S : Type 0} (gives : Asks S) (parent path : List ℕ) (old : Bool) : Type 0 where
  pub before : S
  pub mid : S
  pub after : S
  pub over : StatMeans gives parent over_told (Ok tt) before mid
  pub here : StatMeans gives path place_told (Ok old) mid after

-- a reader's `stat` was called at the parent or at the path, and its answer stops a save with this error
pub record LookStopped {S : Type 0} (gives : Asks S) (parent path : List ℕ) (means : SaveError) : Type 0 where
  pub before : S
  pub after : S
  pub why :
      StatMeans gives parent over_told (Err means) before after ⊎ StatMeans gives path place_told (Err means) before after

-- the last call was a write at the path that was refused, and its refusal stops a save with this error
pub record LastWrite {S : Type 0} (gives : Writes S) (path : List ℕ) (means : SaveError) (after : S) : Type 0 where
  pub before : S
  pub write : Write
  pub refusal : WriteError
  pub given : gives before path write (Err refusal) after
  pub is_meant : save_error refusal ≡ means

-- an old file was removed
abbrev pub Cleared : {S : Type 0} → Writes S → List ℕ → Bool → S → S → Type 0
Cleared gives path true before after = gives before path asked.remove_file (Ok tt) after
Cleared gives path false before after = after ≡ before

-- so many bytes from the front were written, one piece after another, in pieces of these lengths, with the last one first
abbrev pub Wrote : {S : Type 0} → Writes S → List ℕ → List ℕ → List ℕ → ℕ → S → S → Type 0
Wrote gives path bytes [] many before after = (many ≡ 0) × (after ≡ before)
Wrote {S} gives path bytes (n ∷ pieces) many before after =
    (at : ℕ) × (mid : S) × (many ≡ at + n) × Wrote gives path bytes pieces at before mid
    × gives mid path (asked.write_at at (take n (drop at bytes))) (Ok tt) after

-- so many bytes from the front were written, in some pieces
pub record WroteFront {S : Type 0} (gives : Writes S) (path bytes : List ℕ) (many : ℕ) (before after : S) : Type 0 where
  pub pieces : List ℕ
  pub written : Wrote gives path bytes pieces many before after

-- a file is saved: `stat` found its place, an old file was removed, the file made, and all bytes written
pub record SaveEnded {R S : Type 0} (asks : Asks R) (gives : Writes S) (path bytes : List ℕ) (after : S) : Type 0 where
  pub old : Bool
  pub looked : LookFound asks (parent_of path) path old
  pub before : S
  pub free : S
  pub made : S
  pub cleared : Cleared gives path old before free
  pub is_made : gives free path asked.make_file (Ok tt) made
  pub written : WroteFront gives path bytes (length bytes) made after

-- why a file is not saved. Out of memory leaves the files as they were, unless a write answered it
abbrev pub SaveStopped : {R S : Type 0} → Asks R → Writes S → List ℕ → S → S → SaveError → Type 0
SaveStopped asks gives path before after save.Failed =
    LookStopped asks (parent_of path) path save.Failed ⊎ LastWrite gives path save.Failed after
SaveStopped asks gives path before after save.NoPlace =
    (is_root path ≡ true) ⊎ (LookStopped asks (parent_of path) path save.NoPlace ⊎ LastWrite gives path save.NoPlace after)
SaveStopped asks gives path before after save.OutOfMemory = (after ≡ before) ⊎ LastWrite gives path save.OutOfMemory after
