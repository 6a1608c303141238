-- The place of a search for a path that is at or over another one. Only the contracts of this crate's own parts cite it.
use Rattle.std.specs.Prelude.{◌≡◌, ℕ, ◌≤◌, false, List, length, take, All, None}
use Rattle.std.specs.declared.cmp.Ordering.TheVariants.{Less}
use Rattle.path_text.specs.Path.{refusal}
use Rattle.path_text.specs.Order.{path_cmp, is_within}

-- a path that a search has passed: it comes before the one that is searched, which is not under it
pub record IsBehind (sought path : List ℕ) : Type 0 where
  pub valid : refusal path ≡ None
  pub less : path_cmp path sought ≡ Less
  pub off : is_within sought path ≡ false

-- the search has passed all paths before this place
pub record IsCleared (paths : List (List ℕ)) (at : ℕ) (sought : List ℕ) : Type 0 where
  pub inside : at ≤ length paths
  pub behind : All (IsBehind sought) (take at paths)
