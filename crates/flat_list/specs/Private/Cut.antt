-- The entries of a log that is read.
use Rattle.std.specs.Prelude.{List, ◌++◌}
use Rattle.std.specs.List.{flat_map}
use Rattle.entry_pages.specs.declared.entries.Entry.{Entry}
use Rattle.flat_list.specs.declared.runs.Pieces.{Pieces}
use Rattle.flat_list.specs.declared.runs.Cut.{Cut}

-- the entries of the runs, and of the piece that is to be the next one
abbrev pub held_by : Pieces → List Entry
held_by p = flat_map (λ run. run) p.runs.items ++ p.piece

-- and the directories that wait
abbrev pub all_of : Cut → List Entry
all_of c = held_by c.pieces ++ c.waiting
