-- The target of each source. Our own, after cp and mpiFileUtils' dcp.
use Rattle.std.specs.Prelude.{⊤, ◌≡◌, ◌⊎◌, ℕ, Bool, true, false, not, ◌&&◌, ◌||◌, List, [], ◌∷◌, ◌++◌, length, map, if◌then◌else◌, ◌==◌, nat_le}
use Rattle.std.specs.Prelude.{Option, Some, None, Result, Ok, Err, All}
use Rattle.std.specs.List.{list_any, list_all}
use Rattle.std.specs.FinMap.{get}
use Rattle.path_text.specs.Order.{is_within}
use Rattle.path_text.specs.Path.{joined, base_of, parent_of, refusal}
use Rattle.outside.specs.Answered.{StatMeans, is_dir_kind}
use Rattle.outside.specs.Asked.{Asks}
use Rattle.outside.specs.Count.{RoseBy}
use Rattle.outside.specs.Tree.{Files, is_dir, is_root}
use Rattle.outside.specs.declared.failures.Failed.{Failed}
use Rattle.outside.specs.declared.trees.Stat.{Stat}
use Rattle.tree_copy.specs.declared.pairs.Pair.{Pair}
use Rattle.tree_copy.specs.declared.pairs.PlaceError.{PlaceError}
use Rattle.tree_copy.specs.declared.pairs.PlaceError.TheVariants as place

-- the target of a source. In a destination that is a directory it is the path there under the source's last name, of which `/` has
-- none. Else it is the destination
abbrev pub target_in : Bool → List ℕ → List ℕ → List ℕ
target_in true dest source = if is_root source then dest else joined dest (base_of source)
target_in false dest source = dest

-- one of the paths is another one, or one is under another
abbrev pub overlap : List (List ℕ) → Bool
overlap [] = false
overlap (path ∷ paths) = list_any (λ other. is_within path other || is_within other path) paths || overlap paths

-- each source has a target: several sources need a directory to go to, and no target may be too long
abbrev pub has_targets : Bool → List ℕ → List (List ℕ) → Bool
has_targets in_dir dest sources = (in_dir || length sources == 1) && list_all (λ source. nat_le (length (target_in in_dir dest source)) 4095) sources

-- the sources, and their targets if each has one
abbrev pub ends_in : Bool → List ℕ → List (List ℕ) → List (List ℕ)
ends_in in_dir dest sources = if has_targets in_dir dest sources then sources ++ map (target_in in_dir dest) sources else sources

abbrev pub pairs_in : Bool → List ℕ → List (List ℕ) → List Pair
pairs_in in_dir dest sources = map (λ source. record { source = source; target = target_in in_dir dest source }) sources

-- source and target are paths
pub record IsPair (pair : Pair) : Type 0 where
  pub source : refusal pair.source ≡ None
  pub target : refusal pair.target ≡ None

-- the targets of the sources, or why they have none. `in_dir` says that the destination is a directory, and `over_dir` that its
-- parent is one
abbrev pub placed : (in_dir over_dir : Bool) → List ℕ → List (List ℕ) → Result (List Pair) PlaceError
placed in_dir over_dir dest sources =
    if overlap (ends_in in_dir dest sources) then Err place.Overlap
    else if has_targets in_dir dest sources && (in_dir || over_dir) then Ok (pairs_in in_dir dest sources)
    else Err place.NoDest

-- the same over files that show their tree. If the destination's parent is not asked for, it makes no difference
abbrev pub placed_over : Files → List ℕ → List (List ℕ) → Result (List Pair) PlaceError
placed_over files dest sources = placed (is_dir (get files dest)) (is_dir (get files (parent_of dest))) dest sources

-- the error is the one that is due. A look that failed, and a lack of memory, come before any other
abbrev pub IsWhy : Result (List Pair) PlaceError → PlaceError → Type 0
IsWhy due place.Overlap = due ≡ Err place.Overlap
IsWhy due place.NoDest = due ≡ Err place.NoDest
IsWhy due (place.Failed path) = ⊤
IsWhy due place.OutOfMemory = ⊤

-- a look that failed was one at the destination or its parent, and it was counted
abbrev pub IsCounted : List ℕ → (old new : ℕ) → PlaceError → Type 0
IsCounted dest old new (place.Failed path) = ((path ≡ dest) ⊎ (path ≡ parent_of dest)) × RoseBy 1 old new
IsCounted dest old new place.Overlap = ⊤
IsCounted dest old new place.NoDest = ⊤
IsCounted dest old new place.OutOfMemory = ⊤

-- over all files, by the answers

-- whether a directory is there, by the answer of `stat`; nothing if that failed
abbrev pub dir_told : Result (Option Stat) Failed → Option Bool
dir_told (Ok None) = Some false
dir_told (Ok (Some stat)) = Some (is_dir_kind stat.kind)
dir_told (Err failed) = None

-- the destination's parent matters: there is one, and one source goes to a path that is not a directory
abbrev pub asks_over : Bool → List ℕ → List (List ℕ) → Bool
asks_over in_dir dest sources = not in_dir && length sources == 1 && not (is_root dest)

-- a reader was asked whether the parent is a directory, if that matters
abbrev pub LookedOver : {S : Type 0} → Asks S → List ℕ → Bool → Bool → S → S → Type 0
LookedOver gives dest true over_dir before after = StatMeans gives (parent_of dest) dir_told (Some over_dir) before after
LookedOver gives dest false over_dir before after = (over_dir ≡ false) × (after ≡ before)

-- this is due by two looks, at the destination and at its parent
pub record Placed {S : Type 0} (gives : Asks S) (sources : List (List ℕ)) (dest : List ℕ) (due : Result (List Pair) PlaceError)
    (before after : S) : Type 0 where
  pub in_dir : Bool
  pub over_dir : Bool
  pub mid : S
  pub here : StatMeans gives dest dir_told (Some in_dir) before mid
  pub over : LookedOver gives dest (asks_over in_dir dest sources) over_dir mid after
  pub is_due : placed in_dir over_dir dest sources ≡ due

-- the look at the destination's parent failed
pub record FailedOver {S : Type 0} (gives : Asks S) (sources : List (List ℕ)) (dest : List ℕ) (before after : S) : Type 0 where
  pub mid : S
  pub here : StatMeans gives dest dir_told (Some false) before mid
  pub asked : asks_over false dest sources ≡ true
  pub over : StatMeans gives (parent_of dest) dir_told None mid after

-- why there are no pairs
abbrev pub PlaceStopped : {S : Type 0} → Asks S → List (List ℕ) → List ℕ → S → S → PlaceError → Type 0
PlaceStopped gives sources dest before after place.Overlap = Placed gives sources dest (Err place.Overlap) before after
PlaceStopped gives sources dest before after place.NoDest = Placed gives sources dest (Err place.NoDest) before after
PlaceStopped gives sources dest before after (place.Failed path) =
    ((path ≡ dest) × StatMeans gives dest dir_told None before after) ⊎ ((path ≡ parent_of dest) × FailedOver gives sources dest before after)
PlaceStopped gives sources dest before after place.OutOfMemory = ⊤

-- pairs that a copy can take: no source or target is within another. Each target is in the destination, which is a directory, or is
-- the destination, in its parent
pub record AreApart (in_dir over_dir : Bool) (dest : List ℕ) (pairs : List Pair) : Type 0 where
  pub apart : overlap (map (λ pair. pair.source) pairs ++ map (λ pair. pair.target) pairs) ≡ false
  pub stand : All (λ pair. (if in_dir then parent_of pair.target else pair.target) ≡ dest) pairs
  pub some_dir : (in_dir || over_dir) ≡ true

-- if the destination is a path, the pairs that are due are so
abbrev pub PlacedAreApart : Type 0
PlacedAreApart =
    (in_dir over_dir : Bool) (dest : List ℕ) (sources : List (List ℕ)) (pairs : List Pair) →
    refusal dest ≡ None → placed in_dir over_dir dest sources ≡ Ok pairs → AreApart in_dir over_dir dest pairs
