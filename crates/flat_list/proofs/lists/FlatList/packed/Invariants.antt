use Rattle.flat_list.proofs.Prelude.{◌≡◌}
use Rattle.flat_list.proofs.lists.FlatList.packed.Given as goal

-- what was packed of the entries
abbrev pub invariant-loop-entry : goal.invariant-loop-entry
invariant-loop-entry l = l.list ≡ l.yielded
