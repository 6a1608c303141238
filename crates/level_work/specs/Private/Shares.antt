-- A share of a level on a ground. Our own.
use Rattle.std.specs.Prelude.{◌≡◌, ℕ, ◌<◌, true, false, List, length, Some, slice_get}
use Rattle.path_text.specs.Path.{level_of}
use Rattle.outside.specs.Tree.{is_root}
use Rattle.level_work.specs.Private.Lots.{IsAt, AreApart}
use Rattle.level_work.specs.declared.items.Item.{Item}

-- the paths of the items at these places
pub record ArePaths (items : List Item) (places : List ℕ) (paths : List (List ℕ)) : Type 0 where
  pub len : length paths ≡ length places
  pub of_item : (j : ℕ) (x : Item) → IsAt items places j x → slice_get paths j ≡ Some x.path

-- the same, of the first n places
pub record AreFirstPaths (n : ℕ) (items : List Item) (places : List ℕ) (paths : List (List ℕ)) : Type 0 where
  pub len : length paths ≡ n
  pub of_item : (j : ℕ) (x : Item) → j < n → IsAt items places j x → slice_get paths j ≡ Some x.path

-- items that a share may have: each in the list, on one level, none `/`, none at or under another
pub record IsShare (items : List Item) (places : List ℕ) : Type 0 where
  pub inside : (j k : ℕ) → slice_get places j ≡ Some k → k < length items
  pub apart : AreApart items places
  pub one_level : (i j : ℕ) (x y : Item) → IsAt items places i x → IsAt items places j y → level_of x.path ≡ level_of y.path
  pub no_root : (j : ℕ) (x : Item) → IsAt items places j x → is_root x.path ≡ false
