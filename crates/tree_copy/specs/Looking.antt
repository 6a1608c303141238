-- The steps of placing. Only the contracts of this crate's own parts cite it.
use Rattle.std.specs.Prelude.{⊤, ◌≡◌, ℕ, List, None, Result, Err}
use Rattle.outside.specs.Answered.{StatMeans}
use Rattle.outside.specs.Asked.{Asks}
use Rattle.outside.specs.Count.{RoseBy}
use Rattle.tree_copy.specs.declared.pairs.Pair.{Pair}
use Rattle.tree_copy.specs.declared.pairs.PlaceError.{PlaceError}
use Rattle.tree_copy.specs.declared.pairs.PlaceError.TheVariants as place
use Rattle.tree_copy.specs.Placing.{dir_told}

-- a look at this path failed, and was counted
pub record LookFailed {S : Type 0} (gives : Asks S) (path : List ℕ) (old new : ℕ) (before after : S) : Type 0 where
  pub counted : RoseBy 1 old new
  pub asked : StatMeans gives path dir_told None before after

-- why a look failed
abbrev pub LookStopped : {S : Type 0} → Asks S → List ℕ → ℕ → ℕ → S → S → PlaceError → Type 0
LookStopped gives path old new before after (place.Failed at) = (at ≡ path) × LookFailed gives path old new before after
LookStopped gives path old new before after place.OutOfMemory = ⊤
LookStopped gives path old new before after place.Overlap = ⊥
LookStopped gives path old new before after place.NoDest = ⊥

-- once the looks are done, the error is the one that is due
abbrev pub IsDue : Result (List Pair) PlaceError → PlaceError → Type 0
IsDue due place.Overlap = due ≡ Err place.Overlap
IsDue due place.NoDest = due ≡ Err place.NoDest
IsDue due (place.Failed path) = ⊥
IsDue due place.OutOfMemory = ⊤
