-- The rest of a list that is read to its end.
use Rattle.std.specs.Prelude.{ℕ, ◌-◌, Bool, true, false, List, [], drop}
use Rattle.entry_pages.specs.declared.entries.Entry.{Entry}

-- the list is over, or the entry that was passed last is still to be given
abbrev pub left_of : Bool → List Entry × ℕ → List Entry
left_of true c = []
left_of false c = drop (c.1 - 1) c.0
