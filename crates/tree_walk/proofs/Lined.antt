-- Paths that stand in line: each, with all that is under it, comes before those behind it.
use Rattle.tree_walk.proofs.Prelude.{AllByRecursion, Less, path_cmp, precedes}
use Rattle.std.specs.Prelude.{◌≡◌, ℕ, true, ◌<◌, List, [], ◌∷◌, length}

-- each path, with all that is under it, comes before those behind it
abbrev pub Lined : List (List ℕ) → Type 0
Lined [] = Unit {0}
Lined (x ∷ xs) = AllByRecursion (λ y. precedes x y ≡ true) xs × Lined xs

-- these paths stand as the children of a path do: longer, lined up behind it, and before all that it precedes
pub record AreChildren (path : List ℕ) (children : List (List ℕ)) : Type 0 where
  pub longer : AllByRecursion (λ child. length path < length child) children
  pub after : AllByRecursion (λ child. path_cmp path child ≡ Less) children
  pub lined : Lined children
  pub before : (q : List ℕ) → precedes path q ≡ true → AllByRecursion (λ child. precedes child q ≡ true) children
