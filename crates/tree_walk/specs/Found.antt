-- The entries that a walk finds. Our own.
use Rattle.std.specs.Prelude.{◌≡◌, ℕ, ◌<◌, true, List, length, Option, IfSome, All}
use Rattle.std.specs.List.{sum_by, flat_map}
use Rattle.std.specs.List.Sorted.{IsStrictlySortedBy, IsPermutation}
use Rattle.path_text.specs.Order.{path_cmp}
use Rattle.outside.specs.Tree.{Files, IsTree}
use Rattle.outside.specs.Count.{RoseBy}
use Rattle.entry_pages.specs.declared.entries.Entry.{Entry}
use Rattle.entry_pages.specs.Entries.{is_shaped}
use Rattle.flat_list.specs.Spelling.{max_entries}
use Rattle.tree_walk.specs.declared.errors.WalkError.{WalkError}
use Rattle.tree_walk.specs.declared.errors.WalkError.TheVariants as error
use Rattle.tree_walk.specs.Walk.{answers_in, walk, weight_of, paths_of}
use Rattle.tree_walk.specs.Roots.{is_in_some}

-- the list is the walks of the starts in path order, one after the other, with the failed answers that it tells itself
abbrev pub IsWalkOf : Files → List Entry → List (List ℕ) → Type 0
IsWalkOf files list starts = (ordered : List (List ℕ)) → IsPermutation starts ordered → IsStrictlySortedBy path_cmp ordered
    → list ≡ flat_map (walk files (answers_in list)) ordered

-- a walk of the starts found this list, over files that may tell a tree. Their count of faults went from old to new
pub record IsFound (tree : Option Files) (starts : List (List ℕ)) (old new : ℕ) (list : List Entry) : Type 0 where
  -- over files that tell their tree it is the recursive walk
  pub told : IfSome tree (λ files. IsWalkOf files list starts)
  -- and that is a tree, where something was looked at
  pub valid : 0 < length starts → IfSome tree IsTree
  -- over all files each path comes once, in path order
  pub ascend : IsStrictlySortedBy path_cmp (paths_of list)
  -- and is a start or under one
  pub within : All (λ e. is_in_some starts e.path ≡ true) list
  -- each entry has the shape that its mark asks for
  pub shaped : All (λ e. is_shaped e ≡ true) list
  -- and the failed answers that the list tells were counted
  pub counted : RoseBy (sum_by weight_of list) old new

-- a walk found n entries, more than a list may have
pub record FoundTooMany (tree : Option Files) (starts : List (List ℕ)) (old new n : ℕ) : Type 0 where
  pub list : List Entry
  pub found : IsFound tree starts old new list
  pub number : n ≡ length list
  pub above : max_entries < n

abbrev pub IfTooMany : WalkError → (ℕ → Type 0) → Type 0
IfTooMany error.OutOfMemory P = Unit {0}
IfTooMany (error.TooMany n) P = P n
