-- How far a search through ascending paths has come, beside one pass over the entries of a list. Our own.
-- Only clauses of functions that no other crate sees cite this file, here and in the crates above.
use Rattle.std.specs.Prelude.{◌≡◌, ℕ, ◌<◌, ◌≤◌, List, length, take, All, slice_index_or as get_or}
use Rattle.std.specs.declared.cmp.Ordering.TheVariants.{Less}
use Rattle.path_text.specs.Order.{path_cmp}
use Rattle.entry_pages.specs.declared.entries.Entry.{Entry}

-- the paths before this place all come before the one that is sought
pub record IsPassed (paths : List (List ℕ)) (at : ℕ) (sought : List ℕ) : Type 0 where
  pub inside : at ≤ length paths
  pub before : All (λ p. path_cmp p sought ≡ Less) (take at paths)

-- a search by a key of each entry has come this far at the next entry, if there is one
abbrev pub IsNext : (List (List ℕ) → ℕ → List ℕ → Type 0) → (Entry → List ℕ) → List Entry → ℕ → List (List ℕ) → ℕ → Type 0
IsNext IsSo key entries k paths at = (at ≤ length paths) × ((d : Entry) → k < length entries → IsSo paths at (key (get_or entries k d)))
