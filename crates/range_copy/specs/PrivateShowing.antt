-- The evidence of the fate of a large file. Only the contracts of this crate's own parts cite it.
use Rattle.std.specs.Prelude.{◌≡◌, ◌⊎◌, ℕ, List, Option, Some, None, Ok, Err}
use Rattle.std.specs.List.{AllByRecursion}
use Rattle.outside.specs.Asked.{Asks, Writes}
use Rattle.outside.specs.Asked as asked
use Rattle.outside.specs.Spans.{Piece}
use Rattle.outside.specs.declared.plots.WriteError.TheVariants as write
use Rattle.outside.specs.declared.trees.Kind.TheVariants as kind
use Rattle.level_work.specs.declared.items.Fate.{Fate}
use Rattle.level_work.specs.declared.items.Fate.TheVariants as fate
use Rattle.tree_copy.specs.Causes.{IsWritten, LookMeans, RefusalMeans}
use Rattle.range_copy.specs.PrivateFilling.{span_of}
use Rattle.range_copy.specs.PrivateReading.{FilledBy, IsFreshBy, IsRead}
use Rattle.range_copy.specs.declared.came.Came.{Came}
use Rattle.range_copy.specs.declared.came.Came.TheVariants as came
use Rattle.range_copy.specs.declared.filled.Filled.TheVariants as filled
use Rattle.range_copy.specs.declared.fillers.Filler.{Filler}
use Rattle.range_copy.specs.declared.loads.Load.{Load}

-- the empty file at a target

-- the ground was called to make it, and its answer means this outcome. A node is there if it is a conflict
abbrev pub MadeBy : {G : Type 0} → Writes G → List ℕ → G → G → Came → Type 0
MadeBy own target before after came.Done = own before target asked.make_file (Ok tt) after
MadeBy own target before after came.Failed = own before target asked.make_file (Err write.Failed) after
MadeBy own target before after came.Conflict = own before target asked.make_file (Err write.Exists) after
MadeBy own target before after came.Changed = RefusalMeans own target fate.Changed

-- the ground made it, or a write was refused
abbrev pub ReplacedBy : {G : Type 0} → Writes G → List ℕ → G → Came → Type 0
ReplacedBy own target after came.Done = IsWritten own target asked.make_file after
ReplacedBy own target after came.Failed = RefusalMeans own target fate.Failed
ReplacedBy own target after came.Conflict = RefusalMeans own target fate.Conflict
ReplacedBy own target after came.Changed = RefusalMeans own target fate.Changed

-- the ground made it, or a look or a refused write shows why not
abbrev pub WhyNot : {R G : Type 0} → Asks R → Writes G → List ℕ → Fate → Type 0
WhyNot asks own target f = LookMeans asks target kind.File f ⊎ RefusalMeans own target f

abbrev pub PlacedBy : {R G : Type 0} → Asks R → Writes G → List ℕ → G → Came → Type 0
PlacedBy asks own target after came.Done = IsWritten own target asked.make_file after
PlacedBy asks own target after came.Failed = WhyNot asks own target fate.Failed
PlacedBy asks own target after came.Conflict = WhyNot asks own target fate.Conflict
PlacedBy asks own target after came.Changed = WhyNot asks own target fate.Changed

-- the work on spans

-- all outcomes have their evidence
abbrev pub AreFilledBy : {T S : Type 0} → Asks T → List ℕ → ℕ → List (Filler T S) → Type 0
AreFilledBy asks source faults fillers = AllByRecursion (λ one. FilledBy asks source faults one.filled) fillers

-- each filler could read the source, or a read failed
abbrev pub AreFreshBy : {T S : Type 0} → Asks T → List ℕ → List (Filler T S) → Type 0
AreFreshBy asks source fillers = AllByRecursion (λ one. IsFreshBy asks source one.filled) fillers

-- all ranges were read to their ends
abbrev pub AreRead : {T S : Type 0} → Asks T → (S → Piece) → List ℕ → List S → Type 0
AreRead asks piece source spans = AllByRecursion (λ s. IsRead asks source (piece s)) spans

-- how often the span of a load has failed, if there is one
abbrev pub failures_of : {S : Type 0} → (S → ℕ) → Option (Load S) → ℕ
failures_of span_count None = 0
failures_of span_count (Some load) = span_count load.span

-- a filler before and after it filled its span: its range was read, or there is evidence why not
pub record HasShown {T S : Type 0} (asks : Asks T) (piece : S → Piece) (span_count : S → ℕ) (source : List ℕ) (one after : Filler T S) : Type 0 where
  pub done : after.filled ≡ filled.Done → one.filled ≡ filled.Done
  pub read : after.filled ≡ filled.Done → AreRead asks piece source (span_of after.load)
  pub shown : (after.filled ≡ one.filled) ⊎ FilledBy asks source (failures_of span_count after.load) after.filled
