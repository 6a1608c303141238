-- The pass over left strings in path order beside the done entries. Our own. Only clauses of this crate's own functions cite this
-- file.
use Rattle.std.specs.Prelude.{◌≡◌, ℕ, ◌+◌, ◌-◌, ◌<◌, ◌≤◌, Bool, true, false, List, [], ◌∷◌, ◌++◌, map, length, take, drop, min}
use Rattle.std.specs.Prelude.{Option, Some, None, IfSome, if◌then◌else◌, All, nat_eq}
use Rattle.std.specs.List.{AllByRecursion, list_any, Contains, flat_map}
use Rattle.std.specs.Ordering.{is_lt}
use Rattle.std.specs.Cmp.Lexicographic.{pointwise}
use Rattle.std.specs.declared.cmp.Ordering.TheVariants.{Less}
use Rattle.path_text.specs.Order.{path_cmp}
use Rattle.entry_pages.specs.declared.entries.Entry.{Entry}
use Rattle.tree_walk.specs.Roots.{is_in}
use Rattle.checkpoints.specs.Placing.{is_open}

-- y stands at x or behind it
abbrev pub Behind : List ℕ → List ℕ → Type 0
Behind x y = is_lt (path_cmp y x) ≡ false

-- y stands behind each of the paths
abbrev pub AllBehind : List (List ℕ) → List ℕ → Type 0
AllBehind paths y = AllByRecursion (λ x. Behind x y) paths

-- whether the top, if there is one, is y or is above it
abbrev pub covered : Option (List ℕ) → List ℕ → Bool
covered None y = false
covered (Some top) y = is_in y top

-- a path becomes the top unless the top covers it
abbrev pub top_with : Option (List ℕ) → List ℕ → Option (List ℕ)
top_with top z = if covered top z then top else Some z

-- the top is behind no path that is behind all of these
abbrev pub StandsAmong : List (List ℕ) → Option (List ℕ) → Type 0
StandsAmong paths None = Unit {0}
StandsAmong paths (Some top) = (y : List ℕ) → AllBehind paths y → Behind top y

-- among later paths, the top covers each that any of the paths covers
pub record IsTop (paths : List (List ℕ)) (top : Option (List ℕ)) : Type 0 where
  pub among : StandsAmong paths top
  pub covers : (y : List ℕ) → AllBehind paths y → list_any (is_in y) paths ≡ covered top y

-- the entries of a list that were passed, where the list is over or the entry that the cursor passed last is still ahead
abbrev pub passed_of : Bool → List Entry × ℕ → List Entry
passed_of true c = c.0
passed_of false c = take (c.1 - 1) c.0

-- those that are ahead
abbrev pub ahead_of : Bool → List Entry × ℕ → List Entry
ahead_of true c = []
ahead_of false c = drop (c.1 - 1) c.0

-- the first of those that are ahead is passed
abbrev pub moved : List Entry → List Entry → List Entry × List Entry
moved passed [] = (passed, [])
moved passed (e ∷ ahead) = (passed ++ e ∷ [], ahead)

-- the first of those that are ahead
abbrev pub first_of : List Entry → Option Entry
first_of [] = None
first_of (e ∷ es) = Some e

-- the paths of the closed entries
abbrev pub closed_paths : List Entry → List (List ℕ)
closed_paths [] = []
closed_paths (e ∷ es) = if is_open e then closed_paths es else e.path ∷ closed_paths es

-- the top of the closed entries, with one entry more
abbrev pub closed_with : Option (List ℕ) → Entry → Option (List ℕ)
closed_with top e = if is_open e then top else top_with top e.path

-- the entry, whose path is not empty, comes before the path
abbrev pub IsBelow : List ℕ → Entry → Type 0
IsBelow path e = (path_cmp e.path path ≡ Less) × (0 < length e.path)

-- entries were passed up to the path at most, and this is the top of the closed ones
pub record ArePassed (passed : List Entry) (closed : Option (List ℕ)) (path : List ℕ) : Type 0 where
  pub top : IsTop (closed_paths passed) closed
  pub below : AllByRecursion (IsBelow path) passed

-- the first entry stands at the path or behind it
abbrev pub StartsBehind : List ℕ → List Entry → Type 0
StartsBehind path [] = Unit {0}
StartsBehind path (e ∷ es) = Behind path e.path

-- whether the first entry is at the path or under it
abbrev pub starts_in : List ℕ → List Entry → Bool
starts_in path [] = false
starts_in path (e ∷ es) = is_in e.path path

-- whether the first path is this one
abbrev pub starts_at : List ℕ → List (List ℕ) → Bool
starts_at path [] = false
starts_at path (y ∷ ys) = pointwise nat_eq y path

-- left strings with their numbers
abbrev pub Numbered : Type 0
Numbered = List (ℕ × List ℕ)

-- their paths
abbrev pub paths_in : Numbered → List (List ℕ)
paths_in lefts = map (λ l. l.1) lefts

-- the lowest number, with one more
abbrev pub lower_of : Option ℕ → ℕ → Option ℕ
lower_of None n = Some n
lower_of (Some m) n = Some (min m n)

-- with one more, where it is wanted
abbrev pub lowest_with : Bool → Option ℕ → ℕ → Option ℕ
lowest_with wanted lowest n = if wanted then lower_of lowest n else lowest

-- the lowest number, which there is, is at most n
abbrev pub IsUpTo : Option ℕ → ℕ → Type 0
IsUpTo None n = ⊥
IsUpTo (Some m) n = m ≤ n

-- the lowest of the numbers of those that pass a test
pub record IsLowest (test : List ℕ → Bool) (lefts : Numbered) (lowest : Option ℕ) : Type 0 where
  -- it is the number of one that passes
  pub among : IfSome lowest (λ n. (path : List ℕ) × Contains lefts (n, path) × (test path ≡ true))
  -- and each that passes has this number or a higher one
  pub under : All (λ l. test l.1 ≡ true → IsUpTo lowest l.0) lefts

-- where a string stands that has this number in all lists
pub record IsPlace (lists : List (List (List ℕ))) (number rank place : ℕ) : Type 0 where
  pub earlier : List (List (List ℕ))
  pub before : List (List ℕ)
  pub path : List ℕ
  pub behind : List (List ℕ)
  pub later : List (List (List ℕ))
  pub are : lists ≡ earlier ++ (before ++ path ∷ behind) ∷ later
  pub rank_is : rank ≡ length earlier
  pub place_is : place ≡ length before
  pub number_is : number ≡ length (flat_map (λ l. l) earlier) + length before
