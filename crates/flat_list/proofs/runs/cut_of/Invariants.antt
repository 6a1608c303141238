use Rattle.flat_list.proofs.Prelude.{flat_map, IsPermutation, all_of}
use Rattle.flat_list.proofs.runs.cut_of.Given as goal

abbrev pub invariant-loop-log : goal.invariant-loop-log
invariant-loop-log l = IsPermutation (flat_map (λ log. log) l.yielded) (all_of l.cut)
