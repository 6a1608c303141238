-- Spans that go through the hands of fillers in turns. Only the contracts of this crate's own parts cite it.
use Rattle.std.specs.Prelude.{⊤, ◌≡◌, ℕ, ◌+◌, ◌<◌, ◌≤◌, List, [], ◌∷◌, ◌++◌, map, length, Option, None, is_some, IfSome}
use Rattle.std.specs.Prelude.{Result, Ok, Err}
use Rattle.std.specs.List.{AllByRecursion, sum_by}
use Rattle.outside.specs.Tree.{Files, Node}
use Rattle.outside.specs.Spans.{Piece}
use Rattle.range_copy.specs.Large.{HasBytes}
use Rattle.range_copy.specs.declared.came.Came.{Came}
use Rattle.range_copy.specs.declared.came.Came.TheVariants as came
use Rattle.range_copy.specs.declared.cutting.RangeError.{RangeError}
use Rattle.range_copy.specs.declared.cutting.RangeError.TheVariants as range
use Rattle.range_copy.specs.PrivateFilling.{AreLoads, HasRange, IsFresh, IsReady, IsShort, spans_left, spans_of}
use Rattle.range_copy.specs.declared.fillers.Filler.{Filler}
use Rattle.range_copy.specs.declared.filled.Filled.{Filled}
use Rattle.range_copy.specs.declared.filled.Filled.TheVariants as filled
use Rattle.range_copy.specs.declared.loads.Load.{Load}

-- no filler has a span
abbrev pub AreIdle : {T S : Type 0} → List (Filler T S) → Type 0
AreIdle fillers = AllByRecursion (λ one. one.load ≡ None) fillers

-- the work of all is `Done` so far
abbrev pub AreDone : {T S : Type 0} → List (Filler T S) → Type 0
AreDone fillers = AllByRecursion (λ one. one.filled ≡ filled.Done) fillers

-- the readers of all show this tree
abbrev pub AllSee : {T S : Type 0} → (T → Option Files) → Option Files → List (Filler T S) → Type 0
AllSee tree seen fillers = AllByRecursion (λ one. tree one.reader ≡ seen) fillers

-- if one found the file changed, the file in the tree is too short
abbrev pub AreShort : {T S : Type 0} → List ℕ → ℕ → Option Files → List (Filler T S) → Type 0
AreShort source total seen fillers = AllByRecursion (λ one. one.filled ≡ filled.Changed → IfSome seen (IsShort source total)) fillers

abbrev pub AreReady : {T S : Type 0} → (S → Piece) → ℕ → List (Filler T S) → Type 0
AreReady piece total fillers = AllByRecursion (IsReady piece total) fillers

-- how often the readers of fillers have failed, and they and spans
abbrev pub reader_faults : {T S : Type 0} → (T → ℕ) → List (Filler T S) → ℕ
reader_faults reader_count fillers = sum_by (λ one. reader_count one.reader) fillers

abbrev pub faults_of : {T S : Type 0} → (T → ℕ) → (S → ℕ) → List (Filler T S) → List S → ℕ
faults_of reader_count span_count fillers spans = reader_faults reader_count fillers + sum_by span_count spans

-- no work has begun; a reader that has failed to read the source has counted it
abbrev pub AreFresh : {T S : Type 0} → (T → ℕ) → List (Filler T S) → Type 0
AreFresh reader_count fillers = AllByRecursion (IsFresh reader_count) fillers

-- if the work of one failed, a failure was counted
abbrev pub AreBlamed : {T S : Type 0} → ℕ → List (Filler T S) → Type 0
AreBlamed faults fillers = AllByRecursion (λ one. one.filled ≡ filled.Failed → 1 ≤ faults) fillers

-- the first that is not `Done`
abbrev pub first_of : Filled → Filled → Filled
first_of filled.Done rest = rest
first_of filled.Failed rest = filled.Failed
first_of filled.Changed rest = filled.Changed
first_of filled.Lost rest = filled.Lost

-- the outcome of the work of all
abbrev pub outcome_of : {T S : Type 0} → List (Filler T S) → Filled
outcome_of [] = filled.Done
outcome_of (one ∷ rest) = first_of one.filled (outcome_of rest)

-- a filler without its span
abbrev pub hand_of : {T S : Type 0} → Filler T S → T × Filled
hand_of one = (one.reader, one.filled)

-- a turn: the spans of all go to those that are done, and each filler gets the next one
pub record IsTurn {T S : Type 0} (piece : S → Piece) (total : ℕ) (fillers : List (Filler T S)) (loads : List (Load S)) (done : List S)
    (fillers' : List (Filler T S)) (loads' : List (Load S)) (done' : List S) : Type 0 where
  pub taken : done' ≡ done ++ spans_of fillers
  pub dealt : spans_of fillers' ++ spans_left loads' ≡ spans_left loads
  pub ready : AreReady piece total fillers'
  pub are_loads : AreLoads piece total loads'
  pub hands : map hand_of fillers' ≡ map hand_of fillers
  pub fewer : 0 < length loads → length loads' < length loads

-- all spans went through the hands of the fillers, and are there in their order
pub record AreFilled {T S : Type 0} (tree : T → Option Files) (piece : S → Piece) (holds : S → Option (List ℕ)) (source : List ℕ) (total : ℕ)
    (fillers : List (Filler T S)) (spans : List S) (fillers' : List (Filler T S)) (done : List S) : Type 0 where
  pub pieces : map piece done ≡ map piece spans
  pub tells : map (λ s. is_some (holds s)) done ≡ map (λ s. is_some (holds s)) spans
  pub ranges : (seen : Option Files) → AllSee tree seen fillers → AreDone fillers' → AllByRecursion (HasRange piece holds source seen) done
  pub short : (seen : Option Files) → AllSee tree seen fillers → AreShort source total seen fillers'

-- the outcome of the file by that of the work of all
abbrev pub came_of : Filled → Result Came RangeError
came_of filled.Done = Ok came.Done
came_of filled.Failed = Ok came.Failed
came_of filled.Changed = Ok came.Changed
came_of filled.Lost = Err range.OutOfMemory

-- the node at the target once its spans are back
abbrev pub FilledAs : List ℕ → Option Node → Came → Type 0
FilledAs bytes found came.Done = HasBytes bytes found
FilledAs bytes found came.Failed = ⊤
FilledAs bytes found came.Conflict = ⊥
FilledAs bytes found came.Changed = ⊥
