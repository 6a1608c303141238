-- The lists that dcmp saves of a comparison. That it saves the entries whose rows meet an expression is mpiFileUtils'. From which
-- side they come, and that each path comes once, is our own.
use Rattle.std.specs.Prelude.{◌≡◌, ℕ, Bool, true, false, not, ◌&&◌, if◌then◌else◌, List, ◌++◌, map, filter, nat_eq}
use Rattle.std.specs.Cmp.Lexicographic.{pointwise}
use Rattle.std.specs.List.{list_any, AllZip}
use Rattle.std.specs.List.Sorted.{IsStrictlySortedBy, IsPermutation}
use Rattle.path_text.specs.Graft.{below_of}
use Rattle.path_text.specs.Order.{path_cmp}
use Rattle.entry_pages.specs.declared.entries.Entry.{Entry}
use Rattle.flat_list.specs.Spelling.{paths}
use Rattle.tree_cmp.specs.declared.conditions.Condition.{Condition}
use Rattle.tree_cmp.specs.declared.rows.Row.{Row}
use Rattle.tree_cmp.specs.Expressions.{holds, only_dest}
use Rattle.tool_words.specs.declared.commands.Want.{Want}
use Rattle.run_entries.specs.declared.saving.Output.{Output}

-- the row meets the expression, and this side stands for it: the destination where it is on no other side, and else the source
abbrev pub is_given : List (List Condition) → Bool → Row → Bool
is_given expr dest row = holds expr row && (if dest then only_dest row.exist else not (only_dest row.exist))

-- the paths of these rows, which are paths below the tops
abbrev pub given_paths : List (List Condition) → Bool → List Row → List (List ℕ)
given_paths expr dest rows = map (λ row. row.path) (filter (is_given expr dest) rows)

-- the path of an entry below a top is one of these
abbrev pub picks : List ℕ → List (List ℕ) → Entry → Bool
picks top wanted e = list_any (pointwise nat_eq (below_of e.path top)) wanted

-- the path of an entry is that of none of these
abbrev pub is_new : List Entry → Entry → Bool
is_new entries e = not (list_any (pointwise nat_eq e.path) (paths entries))

-- the entries of both lists in path order, each path once: of two entries of one path that of the first list stands
pub record IsJoined (first second list : List Entry) : Type 0 where
  pub ascend : IsStrictlySortedBy path_cmp (paths list)
  pub all : IsPermutation (first ++ filter (is_new first) second) list

-- the list that is saved of rows: the entries of the source, and beside them those of the destination
abbrev pub IsSelected : List (List Condition) → List Row → (left_top right_top : List ℕ) → (left right : List Entry) → List Entry → Type 0
IsSelected expr rows left_top right_top left right list =
    IsJoined (filter (picks left_top (given_paths expr false rows)) left) (filter (picks right_top (given_paths expr true rows)) right) list

-- the outputs, each at its file, in the order in which they are wanted
abbrev pub AreOutputs : List Want → List Row → (left_top right_top : List ℕ) → (left right : List Entry) → List Output → Type 0
AreOutputs wants rows left_top right_top left right outputs =
    AllZip (λ want output. (output.path ≡ want.file) × IsSelected want.expr rows left_top right_top left right output.list) wants outputs
