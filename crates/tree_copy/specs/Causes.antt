-- The answers about an entry that was tried. This holds over all files, also over files that show no tree. The possible answers of
-- a call are a relation of the files of which nothing is known. So an answer is named here only if a call gave it. Our own.
use Rattle.std.specs.Prelude.{◌≡◌, ◌≢◌, ◌⊎◌, ℕ, zero, suc, ◌+◌, true, List, [], ◌∷◌, ◌++◌, length, drop}
use Rattle.std.specs.Prelude.{if◌then◌else◌, Option, Some, None}
use Rattle.std.specs.Prelude.{Result, Ok, Err, All}
use Rattle.std.specs.List.{zip}
use Rattle.outside.specs.Answered.{LastRead, StatMeans}
use Rattle.outside.specs.Asked.{Asks, Write, Writes}
use Rattle.outside.specs.Asked as asked
use Rattle.outside.specs.Count.{RoseBy}
use Rattle.outside.specs.Spans.{are_cuts, cuts_in}
use Rattle.outside.specs.Writes.{Area}
use Rattle.outside.specs.declared.failures.Failed.{Failed}
use Rattle.outside.specs.declared.plots.WriteError.{WriteError}
use Rattle.outside.specs.declared.plots.WriteError.TheVariants as write
use Rattle.outside.specs.declared.trees.Kind.{Kind}
use Rattle.outside.specs.declared.trees.Kind.TheVariants as kind
use Rattle.outside.specs.declared.trees.ReadError.{ReadError}
use Rattle.outside.specs.declared.trees.ReadError.TheVariants as read
use Rattle.outside.specs.declared.trees.Stat.{Stat}
use Rattle.entry_pages.specs.declared.entries.Entry.{Entry}
use Rattle.entry_pages.specs.Entries.{is_kind, is_of, size_by}
use Rattle.level_work.specs.declared.items.Fate.{Fate}
use Rattle.level_work.specs.declared.items.Fate.TheVariants as fate
use Rattle.tree_copy.specs.declared.pairs.Pair.{Pair}
use Rattle.tree_copy.specs.Copying.{is_tried, target_of, treated}

-- the fate that an answer means

-- of a look at a target that is taken, if a node of this kind is needed: `Done` if one is there
abbrev pub look_means : Kind → Result (Option Stat) Failed → Fate
look_means wanted (Ok None) = fate.Changed
look_means wanted (Ok (Some stat)) = if is_kind wanted stat.kind then fate.Done else fate.Conflict
look_means wanted (Err failed) = fate.Failed

-- of a read of the source before its end
abbrev pub read_means : Result ℕ ReadError → Option Fate
read_means (Ok zero) = Some fate.Changed
read_means (Ok (suc n)) = None
read_means (Err read.Failed) = Some fate.Failed
read_means (Err read.NotFile) = Some fate.Changed

-- of a write that is refused; a refusal for lack of memory means none
abbrev pub refusal_means : WriteError → Option Fate
refusal_means write.Failed = Some fate.Failed
refusal_means write.Exists = Some fate.Changed
refusal_means write.NoParent = Some fate.Changed
refusal_means write.WrongKind = Some fate.Changed
refusal_means write.NotEmpty = Some fate.Changed
refusal_means write.Absent = Some fate.Changed
refusal_means write.OutOfMemory = None

-- a reader was asked for the stat of the target, and its answer means this fate
pub record LookMeans {S : Type 0} (asks : Asks S) (target : List ℕ) (wanted : Kind) (f : Fate) : Type 0 where
  pub before : S
  pub after : S
  pub told : StatMeans asks target (look_means wanted) f before after

-- a reader was asked for bytes of the source, and its answer means this fate
pub record ReadMeans {S : Type 0} (asks : Asks S) (source : List ℕ) (f : Fate) : Type 0 where
  pub at : ℕ
  pub answer : Result ℕ ReadError
  pub after : S
  pub read : LastRead asks source at answer after
  pub means : read_means answer ≡ Some f

-- a write at the target was called and done
pub record IsWritten {S : Type 0} (gives : Writes S) (target : List ℕ) (call : Write) (after : S) : Type 0 where
  pub before : S
  pub given : gives before target call (Ok tt) after

-- a write at the target was refused, and that means this fate. The refusal does not say that a node is there, unless an old one was
-- removed before
pub record RefusalMeans {S : Type 0} (gives : Writes S) (target : List ℕ) (f : Fate) : Type 0 where
  pub before : S
  pub call : Write
  pub refusal : WriteError
  pub after : S
  pub given : gives before target call (Err refusal) after
  pub means : refusal_means refusal ≡ Some f
  pub exists : refusal ≡ write.Exists → IsWritten gives target asked.remove_file before

-- the evidence of a copy

-- a write at the target was done
pub record WasWritten {S : Type 0} (gives : Writes S) (target : List ℕ) (call : Write) : Type 0 where
  pub after : S
  pub written : IsWritten gives target call after

-- the file was made, and has no byte; or bytes were written into it that end at this place
abbrev pub EndsAt : {S : Type 0} → Writes S → List ℕ → ℕ → Type 0
EndsAt gives target at =
    ((at ≡ 0) × WasWritten gives target asked.make_file)
    ⊎ ((from : ℕ) × (bytes : List ℕ) × (from + length bytes ≡ at) × WasWritten gives target (asked.write_at from bytes))

-- a directory was made, or one is there; a file was written up to its entry's size; a link was made with its entry's text
abbrev pub ShowsCopy : {R S : Type 0} → Asks R → Writes S → List ℕ → Entry → Kind → Type 0
ShowsCopy asks gives target e kind.Dir = WasWritten gives target asked.make_dir ⊎ LookMeans asks target kind.Dir fate.Done
ShowsCopy asks gives target e kind.File = EndsAt gives target (size_by e.stat)
ShowsCopy asks gives target e kind.Link = (text : List ℕ) × (e.target ≡ Some text) × WasWritten gives target (asked.make_link text)
ShowsCopy asks gives target e kind.Other = ⊥

-- the evidence why an entry of this kind is not copied: a look at its target, a read of a file's source, or a write at its target
abbrev pub ShowsWhy : {R S : Type 0} → Asks R → Writes S → List ℕ → Entry → Kind → Fate → Type 0
ShowsWhy asks gives target e k f =
    LookMeans asks target k f ⊎ (((k ≡ kind.File) × ReadMeans asks e.path f) ⊎ RefusalMeans gives target f)

-- the evidence of the fate of an entry of this kind. A link whose text is not known is `Changed` also if a look found a link
pub data ShowsFate {R S : Type 0} (asks : Asks R) (gives : Writes S) (target : List ℕ) (e : Entry) (k : Kind) (f : Fate) : Type 0 where
  copied : f ≡ fate.Done → ShowsCopy asks gives target e k → ShowsFate asks gives target e k f
  stopped : f ≢ fate.Done → ShowsWhy asks gives target e k f → ShowsFate asks gives target e k f
  untold : f ≡ fate.Changed → k ≡ kind.Link → e.target ≡ None → LookMeans asks target kind.Link fate.Done → ShowsFate asks gives target e k f

abbrev pub Shows : {R S : Type 0} → Asks R → Writes S → List ℕ → Entry → Fate → Option Stat → Type 0
Shows asks gives target e f None = ⊥
Shows asks gives target e f (Some stat) = ShowsFate asks gives target e stat.kind f

-- A file that the ground itself makes at the target and lends in spans. The lease and a write of a span have no relation of answers.
-- The ground's area shows the lease, and the ground's count shows a failure

-- the source was read up to this place
pub record IsReadTo {S : Type 0} (asks : Asks S) (source : List ℕ) (end : ℕ) : Type 0 where
  pub at : ℕ
  pub many : ℕ
  pub after : S
  pub read : LastRead asks source at (Ok many) after
  pub ends : at + many ≡ end

-- the ground made an empty file and lent it in spans up to this size. The source was read to the end of each range
pub record WasSpanned {R G : Type 0} (asks : Asks R) (own : Writes G) (area : G → Area) (source target : List ℕ) (size : ℕ) : Type 0 where
  pub made : WasWritten own target asked.make_file
  pub out : G
  pub cuts : List ℕ
  pub lent : cuts_in target (area out) ≡ Some cuts
  pub are : are_cuts cuts ≡ true
  pub front : List ℕ
  pub ends : cuts ≡ front ++ size ∷ []
  pub read : All (IsReadTo asks source) (drop 1 cuts)

-- the ground made an empty file, and its count rose since: it did not lend the file, or a span failed
pub record SpansFailed {G : Type 0} (own : Writes G) (count : G → ℕ) (target : List ℕ) : Type 0 where
  pub made : G
  pub after : G
  pub written : IsWritten own target asked.make_file made
  pub rose : RoseBy 1 (count made) (count after)

-- the evidence of the fate of such a file
pub data ShowsSpans {R G : Type 0} (asks : Asks R) (own : Writes G) (area : G → Area) (count : G → ℕ) (source target : List ℕ) (size : ℕ)
    (f : Fate) : Type 0 where
  by_spans : f ≡ fate.Done → WasSpanned asks own area source target size → ShowsSpans asks own area count source target size f
  by_look : f ≢ fate.Done → LookMeans asks target kind.File f → ShowsSpans asks own area count source target size f
  by_read : ReadMeans asks source f → ShowsSpans asks own area count source target size f
  by_refusal : RefusalMeans own target f → ShowsSpans asks own area count source target size f
  by_count : f ≡ fate.Failed → SpansFailed own count target → ShowsSpans asks own area count source target size f

-- the evidence of an entry's fate, by the parts of the ground, or of a file by the ground itself
abbrev pub IsShown : {R S G : Type 0} → Asks R → Writes S → Writes G → (G → Area) → (G → ℕ) → List Pair → Entry → Fate → Type 0
IsShown asks gives own area count pairs e f =
    Shows asks gives (target_of pairs e.path) e f e.stat
    ⊎ ((is_of kind.File e.stat ≡ true) × ShowsSpans asks own area count e.path (target_of pairs e.path) (size_by e.stat) f)

-- an entry that was tried has evidence of its fate: answers at its path and at its target
abbrev pub HasCause : {R S G : Type 0} → Asks R → Writes S → Writes G → (G → Area) → (G → ℕ) → List Pair → Entry → Fate → Type 0
HasCause asks gives own area count pairs e f = is_tried f ≡ true → IsShown asks gives own area count pairs e f

abbrev pub HaveCauses : {R S G : Type 0} → Asks R → Writes S → Writes G → (G → Area) → (G → ℕ) → List Entry → List Pair →
    List (List ℕ × Fate) → Type 0
HaveCauses asks gives own area count list pairs rows =
    All (λ one. HasCause asks gives own area count pairs one.0 one.1.1) (zip (treated list) rows)
