-- The steps that make an empty file at a target. Only the contracts of this crate's own parts cite it.
use Rattle.std.specs.Prelude.{⊤, ◌≡◌, ℕ, true, false, List, [], Option, Some, None, is_some, Result, Ok, Err, IfOk}
use Rattle.std.specs.FinMap.{get}
use Rattle.outside.specs.Count.{RoseBy}
use Rattle.outside.specs.Tree.{Files, Node, is_file}
use Rattle.outside.specs.Writes.{Area, SameBut, new_file}
use Rattle.outside.specs.declared.plots.WriteError.{WriteError}
use Rattle.outside.specs.declared.plots.WriteError.TheVariants as write
use Rattle.range_copy.specs.declared.came.Came.{Came}
use Rattle.range_copy.specs.declared.came.Came.TheVariants as came
use Rattle.range_copy.specs.declared.cutting.RangeError.{RangeError}
use Rattle.range_copy.specs.declared.cutting.RangeError.TheVariants as range
use Rattle.range_copy.specs.Large.{in_way}

-- a ground after a step with this outcome: it tells its tree if it did before, has the same area, and has counted a failure
pub record HasStepped {G : Type 0} (tree : G → Option Files) (lent : G → Area) (faults : G → ℕ) (before after : G)
    (result : Result Came RangeError) : Type 0 where
  pub tells : is_some (tree after) ≡ is_some (tree before)
  pub area : lent after ≡ lent before
  pub count : RoseBy 0 (faults before) (faults after)
  pub cause : IfOk result (λ c. c ≡ came.Failed → RoseBy 1 (faults before) (faults after))

-- the meaning of a step for the trees before and after it, by its outcome; no other path changes
pub record Leaves (means : List ℕ → Came → Files → Files → Type 0) (path : List ℕ) (result : Result Came RangeError)
    (before after : Files) : Type 0 where
  pub others : SameBut path before after
  pub meant : IfOk result (λ c. means path c before after)

-- an empty file was made at a free path; `Conflict` says that a node was there
abbrev pub MadeAs : List ℕ → Came → Files → Files → Type 0
MadeAs path came.Done before after = (get before path ≡ None) × (get after path ≡ Some (new_file []))
MadeAs path came.Conflict before after = (is_some (get before path) ≡ true) × (after ≡ before)
MadeAs path came.Failed before after = ⊤
MadeAs path came.Changed before after = ⊥

-- an empty file is there in place of a file
abbrev pub ReplacedAs : List ℕ → Came → Files → Files → Type 0
ReplacedAs path came.Done before after = get after path ≡ Some (new_file [])
ReplacedAs path came.Conflict before after = ⊥
ReplacedAs path came.Failed before after = ⊤
ReplacedAs path came.Changed before after = ⊥

-- an empty file is there in place of none or of a file
abbrev pub PlacedAs : List ℕ → Came → Files → Files → Type 0
PlacedAs path came.Done before after = (in_way (get before path) ≡ false) × (get after path ≡ Some (new_file []))
PlacedAs path came.Conflict before after = (in_way (get before path) ≡ true) × (get after path ≡ get before path)
PlacedAs path came.Failed before after = ⊤
PlacedAs path came.Changed before after = ⊥

-- a look found a file, another node, or none
abbrev pub LooksLike : Option Node → Came → Type 0
LooksLike found came.Done = is_file found ≡ true
LooksLike found came.Conflict = in_way found ≡ true
LooksLike found came.Failed = ⊤
LooksLike found came.Changed = found ≡ None

-- the outcome that a refusal means
abbrev pub refused_as : WriteError → Result Came RangeError
refused_as write.Exists = Ok came.Conflict
refused_as write.Failed = Ok came.Failed
refused_as write.OutOfMemory = Err range.OutOfMemory
refused_as _ = Ok came.Changed

-- the outcome at a path whose old file was removed: a node that is there again is a change
abbrev pub freed : Result Came RangeError → Result Came RangeError
freed (Ok came.Done) = Ok came.Done
freed (Ok came.Failed) = Ok came.Failed
freed (Ok came.Conflict) = Ok came.Changed
freed (Ok came.Changed) = Ok came.Changed
freed (Err error) = Err error
