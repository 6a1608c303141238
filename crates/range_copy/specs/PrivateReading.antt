-- The evidence of the outcome of a range. Only the contracts of this crate's own parts cite it.
use Rattle.std.specs.Prelude.{⊤, ◌≡◌, ◌⊎◌, ℕ, ◌+◌, ◌≤◌, List}
use Rattle.outside.specs.Asked.{Asks}
use Rattle.outside.specs.Spans.{Piece}
use Rattle.level_work.specs.declared.items.Fate.TheVariants as fate
use Rattle.tree_copy.specs.Causes.{IsReadTo, ReadMeans}
use Rattle.range_copy.specs.declared.filled.Filled.{Filled}
use Rattle.range_copy.specs.declared.filled.Filled.TheVariants as filled

-- the evidence of an outcome, after so many failures of spans
abbrev pub FilledBy : {T : Type 0} → Asks T → List ℕ → ℕ → Filled → Type 0
FilledBy asks source faults filled.Done = ⊤
FilledBy asks source faults filled.Failed = ReadMeans asks source fate.Failed ⊎ (1 ≤ faults)
FilledBy asks source faults filled.Changed = ReadMeans asks source fate.Changed
FilledBy asks source faults filled.Lost = ⊤

-- a filler could read the source, or a read failed
abbrev pub IsFreshBy : {T : Type 0} → Asks T → List ℕ → Filled → Type 0
IsFreshBy asks source f = (f ≡ filled.Done) ⊎ ReadMeans asks source fate.Failed

-- the source was read to the end of a range, if it has a byte
abbrev pub IsRead : {T : Type 0} → Asks T → List ℕ → Piece → Type 0
IsRead asks source piece = (piece.size ≡ 0) ⊎ IsReadTo asks source (piece.start + piece.size)
