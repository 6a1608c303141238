-- What dwalk prints: a line for each entry that has a stat, and the line of the summary. After mpiFileUtils' dwalk, with the signs of
-- `find`, and the arrow of `ls` behind a link; the texts are our own.
use Rattle.std.specs.Prelude.{ℕ, ◌-◌, List, [], ◌∷◌, ◌++◌, length, take, drop, replicate, Option, Some, None, codes}
use Rattle.std.specs.List.{flat_map}
use Rattle.std.specs.Fmt.{decimal}
use Rattle.path_text.specs.Escape.{escape}
use Rattle.outside.specs.declared.trees.Kind.{Kind}
use Rattle.outside.specs.declared.trees.Kind.TheVariants as kind
use Rattle.outside.specs.declared.trees.Stat.{Stat}
use Rattle.entry_pages.specs.declared.entries.Entry.{Entry}
use Rattle.entry_pages.specs.declared.summaries.Summary.{Summary}

-- the letter of a kind: `f`, `d`, `l`, `o`
abbrev pub letter : Kind → ℕ
letter kind.File = 102
letter kind.Dir = 100
letter kind.Link = 108
letter kind.Other = 111

-- a number, right in so many places
abbrev pub right : ℕ → ℕ → List ℕ
right places n = let digits = decimal n in replicate (places - length digits) 32 ++ digits

-- what stands behind a path: nothing, or an arrow and the text of a link
abbrev pub target_part : Option (List ℕ) → List ℕ
target_part None = []
target_part (Some target) = codes " -> " ++ escape target

-- the line of a path with a stat, and with the text of a link where it was told
abbrev pub stat_line : Stat → List ℕ → Option (List ℕ) → List ℕ
stat_line stat path target = (letter stat.kind ∷ 32 ∷ right 12 stat.size) ++ (32 ∷ escape path) ++ target_part target ++ 10 ∷ []

-- the line of an entry, where it has a stat
abbrev pub line_by : Option Stat → List ℕ → Option (List ℕ) → List ℕ
line_by None path target = []
line_by (Some stat) path target = stat_line stat path target

abbrev pub line_of : Entry → List ℕ
line_of e = line_by e.stat e.path e.target

-- the lines of the entries, in their order
abbrev pub lines_of : List Entry → List ℕ
lines_of entries = flat_map line_of entries

-- the lines of the entries from one place to another
abbrev pub lines_between : ℕ → ℕ → List Entry → List ℕ
lines_between from to entries = lines_of (drop from (take to entries))

-- the line of a summary
abbrev pub summary_line : Summary → List ℕ
summary_line sum =
    codes "items " ++ decimal sum.items
    ++ codes " dirs " ++ decimal sum.dirs
    ++ codes " files " ++ decimal sum.files
    ++ codes " links " ++ decimal sum.links
    ++ codes " others " ++ decimal sum.others
    ++ codes " bytes " ++ decimal sum.bytes
    ++ codes " failed " ++ decimal sum.failed ++ 10 ∷ []
