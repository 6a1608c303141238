-- The tree while it is made, node after node. Our own.
use Rattle.std.specs.Prelude.{ℕ, ◌+◌, ◌/◌, List, [], ◌∷◌, map, zero, suc}
use Rattle.std.specs.List.{range_with_len}
use Rattle.std.specs.FinMap.{from_entries}
use Rattle.outside.specs.Tree.{Files}
use Rattle.outside.specs.Writes.{empty_dir, nothing_lent}
use Rattle.files_mem.specs.Memory.{Memory}
use Rattle.test_tree.specs.Nodes.{path_of, node_of}

-- `/` and the first k of n nodes
unfoldable pub first_files : ℕ → ℕ → Files
first_files n k = from_entries ((47 ∷ [], empty_dir) ∷ map (λ j. (path_of j, node_of n j)) (range_with_len 0 k))

-- a place for a node: `/`, or the node with the number before
abbrev pub place : ℕ → List ℕ
place zero = 47 ∷ []
place (suc k) = path_of k

-- the place of node k
abbrev pub place_over : ℕ → List ℕ
place_over k = place ((k + 7) / 8)

-- files in memory in which no call is planned to fail
abbrev pub memory_of : Files → Memory
memory_of files = record { files = files; planned = []; count = 0; area = nothing_lent }

-- files in memory that have the first k of n nodes
abbrev pub made : ℕ → ℕ → Memory
made n k = memory_of (first_files n k)
