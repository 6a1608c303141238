-- Whether a source can be synced to a destination. Our own.
use Rattle.std.specs.Prelude.{⊤, ◌≡◌, ℕ, Bool, true, false, List, [], ◌∷◌, if◌then◌else◌, Some, None, Result, Ok, Err}
use Rattle.std.specs.FinMap.{get}
use Rattle.path_text.specs.Path.{parent_of}
use Rattle.outside.specs.Answered.{StatMeans}
use Rattle.outside.specs.Asked.{Asks}
use Rattle.outside.specs.Count.{RoseBy}
use Rattle.outside.specs.Tree.{Files, is_dir}
use Rattle.tree_copy.specs.declared.pairs.PlaceError.{PlaceError}
use Rattle.tree_copy.specs.declared.pairs.PlaceError.TheVariants as place
use Rattle.tree_copy.specs.Placing.{overlap, dir_told}

-- why it can't be, if it can't: the two overlap, or the destination's parent is not a directory. `over_dir` says that it is one
abbrev pub sync_placed : Bool → List ℕ → List ℕ → Result (Unit {0}) PlaceError
sync_placed over_dir source dest =
    if overlap (source ∷ dest ∷ []) then Err place.Overlap else if over_dir then Ok tt else Err place.NoDest

-- the same over files that show their tree
abbrev pub sync_placed_over : Files → List ℕ → List ℕ → Result (Unit {0}) PlaceError
sync_placed_over files source dest = sync_placed (is_dir (get files (parent_of dest))) source dest

-- an overlap or a missing directory is the error if it is due. A look that failed and a lack of memory need no cause here
abbrev pub IsSyncWhy : Result (Unit {0}) PlaceError → PlaceError → Type 0
IsSyncWhy due place.Overlap = due ≡ Err place.Overlap
IsSyncWhy due place.NoDest = due ≡ Err place.NoDest
IsSyncWhy due (place.Failed path) = ⊤
IsSyncWhy due place.OutOfMemory = ⊤

-- the one look, at the destination's parent, failed, and was counted
abbrev pub IsLookCounted : List ℕ → (old new : ℕ) → PlaceError → Type 0
IsLookCounted dest old new (place.Failed path) = (path ≡ parent_of dest) × RoseBy 1 old new
IsLookCounted dest old new place.Overlap = ⊤
IsLookCounted dest old new place.NoDest = ⊤
IsLookCounted dest old new place.OutOfMemory = ⊤

-- why it can't be, by the answer of the one look. An overlap needs no look, and it is the only error if the two overlap
abbrev pub SyncPlaceStopped : {S : Type 0} → Asks S → List ℕ → List ℕ → S → S → PlaceError → Type 0
SyncPlaceStopped gives source dest before after place.Overlap = (overlap (source ∷ dest ∷ []) ≡ true) × (after ≡ before)
SyncPlaceStopped gives source dest before after place.NoDest =
    (overlap (source ∷ dest ∷ []) ≡ false) × StatMeans gives (parent_of dest) dir_told (Some false) before after
SyncPlaceStopped gives source dest before after (place.Failed path) =
    (overlap (source ∷ dest ∷ []) ≡ false) × (path ≡ parent_of dest) × StatMeans gives (parent_of dest) dir_told None before after
SyncPlaceStopped gives source dest before after place.OutOfMemory = (overlap (source ∷ dest ∷ []) ≡ false) × (after ≡ before)
