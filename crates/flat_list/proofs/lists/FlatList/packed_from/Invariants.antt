use Rattle.flat_list.proofs.Prelude.{◌≡◌, take}
use Rattle.flat_list.proofs.lists.FlatList.packed_from.Given as goal

-- what was packed of the entries
abbrev pub invariant-loop-entry : goal.invariant-loop-entry
invariant-loop-entry l = l.list ≡ take l.entry-index l.entries
