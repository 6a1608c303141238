-- The tree that a map in memory is. Our own.
use Rattle.std.specs.Prelude.{◌≡◌, ℕ, List, map, None}
use Rattle.std.specs.FinMap.{from_entries}
use Rattle.std.specs.List.{AllByRecursion}
use Rattle.path_text.specs.Path.{refusal}
use Rattle.outside.specs.Tree.{Files, Node, Body, dir, file, link, other}
use Rattle.files_mem.specs.declared.nodes.Node as stored
use Rattle.files_mem.specs.declared.nodes.Body as kept
use Rattle.files_mem.specs.declared.nodes.Body.TheVariants as b

-- the contents of a body
abbrev pub body_of : kept.Body → Body
body_of (b.Dir far) = dir far
body_of (b.File bytes) = file bytes.items
body_of (b.Link text) = link text
body_of b.Other = other

abbrev pub node_of : stored.Node → Node
node_of n = record { body = body_of n.body; mtime = n.mtime }

-- the nodes by their paths
abbrev pub files_of : List (List ℕ × stored.Node) → Files
files_of entries = from_entries (map (λ e. (e.0, node_of e.1)) entries)

-- each key is a path
abbrev pub AllValid : List (List ℕ × stored.Node) → Type 0
AllValid entries = AllByRecursion (λ e. refusal e.0 ≡ None) entries
