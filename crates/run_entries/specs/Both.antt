-- The walks of a source and of a destination, each by itself. Our own; two walks are what mpiFileUtils' dcmp and dsync make.
use Rattle.std.specs.Prelude.{◌≡◌, ◌⊎◌, ℕ, ◌≤◌, true, List, [], ◌∷◌, length, Option, IfSome, All}
use Rattle.outside.specs.Tree.{Files}
use Rattle.entry_pages.specs.declared.entries.Entry.{Entry}
use Rattle.entry_pages.specs.Entries.{is_shaped}
use Rattle.flat_list.specs.Spelling.{max_entries}
use Rattle.tree_cmp.specs.Readers.{StatsTold}
use Rattle.tree_cmp.specs.Sides.{side, IsSide}
use Rattle.tool_words.specs.Asked.{roots}
use Rattle.run_report.specs.declared.stops.Stop.{Stop}
use Rattle.run_report.specs.Sides.{Side, side_with}
use Rattle.run_entries.specs.declared.both.Sides.{Sides}
use Rattle.run_entries.specs.Entries.{Walked}
use Rattle.run_entries.specs.Stopping.{StopsListing}

-- the source was walked by itself, and then the destination. Neither walk is longer than a list may be
pub record WalksBoth (left_top right_top : List ℕ) (left right : List Entry) (before after : Side) : Type 0 where
  pub between : ℕ
  pub source : Walked (left_top ∷ []) left before (side_with before.tree between)
  pub destination : Walked (right_top ∷ []) right (side_with before.tree between) after
  pub few_left : length left ≤ max_entries
  pub few_right : length right ≤ max_entries

-- each list is that of a side, and of the tree that the files tell, if they tell it
pub record AreSides (tree : Option Files) (sides : Sides) : Type 0 where
  pub left : IsSide (side sides.left_top sides.left)
  pub right : IsSide (side sides.right_top sides.right)
  pub left_told : IfSome tree (λ files. StatsTold files sides.left)
  pub right_told : IfSome tree (λ files. StatsTold files sides.right)
  pub left_shaped : All (λ e. is_shaped e ≡ true) sides.left
  pub right_shaped : All (λ e. is_shaped e ≡ true) sides.right

-- the destination was not walked to its end, though the source was before
pub record StopsAfterSource (left_top right_top : List ℕ) (before after : Side) (why : Stop) : Type 0 where
  pub left : List Entry
  pub between : ℕ
  pub source : Walked (left_top ∷ []) left before (side_with before.tree between)
  pub few : length left ≤ max_entries
  pub later : between ≤ after.count
  pub stops : StopsListing (roots (right_top ∷ [])) (side_with before.tree between) after why

-- one of the two walks did not come to its end
abbrev pub StopsEitherWalk : (left_top right_top : List ℕ) → Side → Side → Stop → Type 0
StopsEitherWalk left_top right_top before after why =
    StopsListing (roots (left_top ∷ [])) before after why ⊎ StopsAfterSource left_top right_top before after why
