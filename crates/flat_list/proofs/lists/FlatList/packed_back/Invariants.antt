use Rattle.flat_list.proofs.Prelude.{◌++◌, length, IsPermutation}
use Rattle.flat_list.proofs.lists.FlatList.packed_back.Given as goal

-- what is left of the entries, and what was packed of the others
abbrev pub invariant-loop-last : goal.invariant-loop-last
invariant-loop-last l = IsPermutation l.entries (l.left ++ l.list)

abbrev pub decreases-loop-last : goal.decreases-loop-last
decreases-loop-last l = length l.left
