-- The made-up tree of the self-test: node k is named `n` and k, is under node (k - 1) / 8, and is a directory if it has a child,
-- else a file. Our own.
use Rattle.std.specs.Prelude.{ℕ, ◌+◌, ◌*◌, ◌/◌, ◌%◌, List, [], ◌∷◌, map, if◌then◌else◌, nat_lt, replicate, None, zero, suc}
use Rattle.std.specs.Fmt.{decimal}
use Rattle.std.specs.List.{range_with_len}
use Rattle.std.specs.FinMap.{from_entries}
use Rattle.path_text.specs.Path.{joined}
use Rattle.outside.specs.Tree.{Files, Node, dir, file}
use Rattle.outside.specs.Writes.{empty_dir}

-- `n` and the number
abbrev pub name_of : ℕ → List ℕ
name_of k = 110 ∷ decimal k

-- the path of a node, at most so many levels down
abbrev pub path_down : ℕ → ℕ → List ℕ
path_down zero k = []
path_down (suc levels) zero = joined (47 ∷ []) (name_of 0)
path_down (suc levels) (suc k) = joined (path_down levels (k / 8)) (name_of (suc k))

-- the path of a node
unfoldable pub path_of : ℕ → List ℕ
path_of k = path_down (suc k) k

-- of n nodes, the one with the number k
abbrev pub node_of : ℕ → ℕ → Node
node_of n k = record { body = if nat_lt (8 * k + 1) n then dir 0 else file (replicate (37 * k % 101) (k % 256)); mtime = None }

-- the tree of n nodes: `/`, a directory without a time, and each node at its path
unfoldable pub test_files : ℕ → Files
test_files n = from_entries ((47 ∷ [], empty_dir) ∷ map (λ k. (path_of k, node_of n k)) (range_with_len 0 n))
