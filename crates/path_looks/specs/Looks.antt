-- Looks at paths: the time of the last modification of each. Our own, after the `-newer` of find.
use Rattle.std.specs.Prelude.{◌≡◌, ℕ, Bool, true, false, List, map, sum_by, Option, Some, None, IfSome, MatchOption, is_some}
use Rattle.std.specs.List.{All, Contains}
use Rattle.std.specs.List.Sorted.{IsStrictlySortedBy}
use Rattle.std.specs.FinMap.{get}
use Rattle.path_text.specs.Order.{path_cmp}
use Rattle.outside.specs.Tree.{Files}
use Rattle.outside.specs.Count.{RoseBy, StoodStill}
use Rattle.path_looks.specs.declared.looks.Look.{Look}
use Rattle.path_looks.specs.declared.looks.Seen.{Seen}
use Rattle.path_looks.specs.declared.looks.Seen.TheVariants as seen

-- the answer of a look is right: the time of the last modification, or that no node is there
abbrev pub IsSeen : Option Files → List ℕ → Seen → Type 0
IsSeen tree path (seen.At mtime) = IfSome tree (λ files. MatchOption (get files path) ⊥ (λ node. mtime ≡ node.mtime))
IsSeen tree path seen.Absent = IfSome tree (λ files. get files path ≡ None)
IsSeen tree path seen.Failed = Unit {0}

-- the number of faults of an answer
abbrev pub faults_in : Seen → ℕ
faults_in (seen.At mtime) = 0
faults_in seen.Absent = 0
faults_in seen.Failed = 1

-- the number of faults of a look
abbrev pub fault_of : Look → ℕ
fault_of l = faults_in l.seen

-- the paths that were looked at
abbrev pub paths_of : List Look → List (List ℕ)
paths_of looks = map (λ l. l.path) looks

-- each of the paths was looked at once, over files that may tell a tree and whose count of faults went from old to new
pub record AreLooks (tree : Option Files) (paths : List (List ℕ)) (looks : List Look) (old new : ℕ) : Type 0 where
  pub once : IsStrictlySortedBy path_cmp (paths_of looks)
  -- at all of them, and at no other
  pub every : All (Contains (paths_of looks)) paths
  pub none_else : All (λ l. Contains paths l.path) looks
  pub told : All (λ l. IsSeen tree l.path l.seen) looks
  pub counted : RoseBy (sum_by fault_of looks) old new

-- a node was there
abbrev pub is_at : Seen → Bool
is_at (seen.At mtime) = true
is_at seen.Absent = false
is_at seen.Failed = false

-- if every path is there and no fault was counted, each look found a node
abbrev pub LooksWithoutFaultsAreTold : Type 0
LooksWithoutFaultsAreTold =
    (files : Files) (paths : List (List ℕ)) (looks : List Look) (old new : ℕ) →
    AreLooks (Some files) paths looks old new → All (λ path. is_some (get files path) ≡ true) paths → StoodStill old new → All (λ l. is_at l.seen ≡ true) looks
