-- Laws of the made-up tree. Our own.
use Rattle.std.specs.Prelude.{◌≡◌, ℕ, ◌+◌, ◌≤◌, List, [], ◌∷◌, true, is_some}
use Rattle.std.specs.FinMap.{get, len}
use Rattle.outside.specs.Tree.{IsTree, far_at}
use Rattle.test_tree.specs.Nodes.{path_of, test_files}

-- node 0 is there, at `/n0`
pub record FirstNodeIsThere : Type 0 where
  pub path : path_of 0 ≡ 47 ∷ 110 ∷ 48 ∷ []
  pub there : (n : ℕ) → 1 ≤ n → n ≤ 1000000 → is_some (get (test_files n) (path_of 0)) ≡ true

-- the made nodes are a tree: each node is in a directory, at a valid path
abbrev pub TestFilesAreTree : Type 0
TestFilesAreTree = (n : ℕ) → 1 ≤ n → n ≤ 1000000 → IsTree (test_files n)

-- no directory has a child whose path is too long
abbrev pub NoChildIsFar : Type 0
NoChildIsFar = (n : ℕ) → 1 ≤ n → n ≤ 1000000 → (path : List ℕ) → far_at (get (test_files n) path) ≡ 0

-- the paths are those of the n nodes and `/`
abbrev pub NodesAreCounted : Type 0
NodesAreCounted = (n : ℕ) → 1 ≤ n → n ≤ 1000000 → len (test_files n) ≡ n + 1
