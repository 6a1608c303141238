-- The work on the spans of a file, each by the reader that it is dealt to. Only the contracts of this crate's own parts cite it.
use Rattle.std.specs.Prelude.{◌≡◌, ◌⊎◌, ℕ, ◌+◌, ◌≤◌, ◌<◌, true, List, [], ◌∷◌, ◌++◌, map, length, reverse, take, drop}
use Rattle.std.specs.Prelude.{Option, Some, None, is_some, IfSome}
use Rattle.std.specs.List.{AllByRecursion, sum_by}
use Rattle.std.specs.FinMap.{get}
use Rattle.outside.specs.Tree.{Files, content, is_file}
use Rattle.outside.specs.Spans.{Piece}
use Rattle.range_copy.specs.declared.fillers.Filler.{Filler}
use Rattle.range_copy.specs.declared.filled.Filled.TheVariants as filled
use Rattle.range_copy.specs.declared.loads.Load.{Load}

-- so many bytes of a file, from a place on
abbrev pub IsRange : ℕ → ℕ → List ℕ → List ℕ → Type 0
IsRange start size file bytes = bytes ≡ take size (drop start file)

-- a file that is there has fewer bytes
abbrev pub IsShort : List ℕ → ℕ → Files → Type 0
IsShort path size files = is_file (get files path) ≡ true → length (content (get files path)) < size

abbrev pub loads_of : {S : Type 0} → Option (Load S) → List (Load S)
loads_of None = []
loads_of (Some load) = load ∷ []

-- the span of a load, if there is one
abbrev pub span_of : {S : Type 0} → Option (Load S) → List S
span_of None = []
span_of (Some load) = load.span ∷ []

-- the spans that are still to be dealt: the last load is dealt first
abbrev pub spans_left : {S : Type 0} → List (Load S) → List S
spans_left loads = reverse (map (λ load. load.span) loads)

-- the spans that fillers have
abbrev pub spans_of : {T S : Type 0} → List (Filler T S) → List S
spans_of [] = []
spans_of (one ∷ rest) = span_of one.load ++ spans_of rest

-- a load has the start and the size of its span, and ends inside a file of so many bytes
pub record IsLoad {S : Type 0} (piece : S → Piece) (total : ℕ) (load : Load S) : Type 0 where
  pub start : load.start ≡ (piece load.span).start
  pub size : load.size ≡ (piece load.span).size
  pub inside : load.start + load.size ≤ total

abbrev pub AreLoads : {S : Type 0} → (S → Piece) → ℕ → List (Load S) → Type 0
AreLoads piece total loads = AllByRecursion (IsLoad piece total) loads

-- a span has its range of the file's bytes, if both show their bytes
abbrev pub HasRange : {S : Type 0} → (S → Piece) → (S → Option (List ℕ)) → List ℕ → Option Files → S → Type 0
HasRange piece holds source seen span =
    IfSome seen (λ files. IfSome (holds span) (IsRange (piece span).start (piece span).size (content (get files source))))

-- a filler has a load, or none
abbrev pub IsReady : {T S : Type 0} → (S → Piece) → ℕ → Filler T S → Type 0
IsReady piece total one = IfSome one.load (IsLoad piece total)

-- a filler before and after it filled its span: once it has not come to `Done`, it fills no more
pub record HasWorked {T S : Type 0} (tree : T → Option Files) (piece : S → Piece) (holds : S → Option (List ℕ)) (source : List ℕ)
    (total : ℕ) (one after : Filler T S) : Type 0 where
  pub same : tree after.reader ≡ tree one.reader
  pub pieces : map piece (span_of after.load) ≡ map piece (span_of one.load)
  pub tells : map (λ s. is_some (holds s)) (span_of after.load) ≡ map (λ s. is_some (holds s)) (span_of one.load)
  pub done : after.filled ≡ filled.Done → one.filled ≡ filled.Done
  pub ranges : after.filled ≡ filled.Done → AllByRecursion (HasRange piece holds source (tree one.reader)) (span_of after.load)
  pub short : after.filled ≡ filled.Changed → (one.filled ≡ filled.Changed) ⊎ IfSome (tree one.reader) (IsShort source total)

-- a filler whose work has come to `Done` so far, or a failure of its reader was counted
abbrev pub IsFresh : {T S : Type 0} → (T → ℕ) → Filler T S → Type 0
IsFresh reader_count one = (one.filled ≡ filled.Done) ⊎ (1 ≤ reader_count one.reader)

-- the counts of a filler's reader and of its span around its work: a failure is counted
pub record HasCounted {T S : Type 0} (reader_count : T → ℕ) (span_count : S → ℕ) (one after : Filler T S) : Type 0 where
  pub kept : reader_count one.reader ≤ reader_count after.reader
  pub blamed : after.filled ≡ filled.Failed →
      (one.filled ≡ filled.Failed) ⊎ (1 ≤ reader_count after.reader + sum_by span_count (span_of after.load))
