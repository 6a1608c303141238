use Rattle.flat_list.proofs.Prelude.{◌++◌, take, IsPermutation, all_of}
use Rattle.flat_list.proofs.runs.Cut.take_all.Given as goal

-- what was passed moved to the others
abbrev pub invariant-loop-entry : goal.invariant-loop-entry
invariant-loop-entry l = IsPermutation (all_of l.fn.self ++ take l.entry-index l.log) (all_of l.self)
