-- What ddup prints: for each group its line and a line for each of its paths, and the line of the counts. The tool is mpiFileUtils' ddup; the
-- texts are our own, and the digits those of the crate hex.
use Rattle.std.specs.Prelude.{ℕ, ◌-◌, ◌*◌, List, [], ◌∷◌, ◌++◌, length, codes}
use Rattle.std.specs.List.{flat_map, sum_by}
use Rattle.std.specs.Fmt.{decimal}
use Rattle.hex.specs.Hex.{encode_lower}
use Rattle.path_text.specs.Escape.{escape}
use Rattle.tree_dup.specs.Told.{Told}
use Rattle.tool_text.specs.declared.grouping.GroupCounts.{GroupCounts}

-- the line of a path
abbrev pub path_line : List ℕ → List ℕ
path_line path = escape path ++ 10 ∷ []

-- a line for each path, in their order
abbrev pub path_lines : List (List ℕ) → List ℕ
path_lines paths = flat_map path_line paths

-- the line of a group: how many bytes each of its files has, how many files there are, and their SHA-256, each byte in two digits
abbrev pub group_line : Told → List ℕ
group_line g = codes "group " ++ decimal g.size ++ codes " " ++ decimal (length g.paths) ++ codes " " ++ encode_lower g.digest ++ 10 ∷ []

-- the lines of the groups, each before those of its paths
abbrev pub group_lines : List Told → List ℕ
group_lines groups = flat_map (λ g. group_line g ++ path_lines g.paths) groups

-- how many files a group has, and how many bytes they have beside one of them
abbrev pub file_count : Told → ℕ
file_count g = length g.paths

abbrev pub extra_of : Told → ℕ
extra_of g = g.size * (length g.paths - 1)

-- how many groups there are, how many files they have, and how many bytes beside one of each
abbrev pub counts_of : List Told → GroupCounts
counts_of groups = record { groups = length groups; files = sum_by file_count groups; extra_bytes = sum_by extra_of groups }

-- the line of the counts, and of how many failures are noted
abbrev pub counts_line : GroupCounts → ℕ → List ℕ
counts_line counts failed =
    codes "groups " ++ decimal counts.groups
    ++ codes " files " ++ decimal counts.files
    ++ codes " extra_bytes " ++ decimal counts.extra_bytes
    ++ codes " failed " ++ decimal failed ++ 10 ∷ []

-- all that is printed of files of equal content
abbrev pub groups_text : List Told → ℕ → List ℕ
groups_text groups failed = group_lines groups ++ counts_line (counts_of groups) failed
