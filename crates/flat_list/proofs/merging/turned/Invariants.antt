use Rattle.flat_list.proofs.Prelude.{◌++◌, vec_len, flat_map, IsPermutation}
use Rattle.flat_list.proofs.merging.turned.Given as goal

-- the runs that are left, and what was joined of the others
abbrev pub invariant-loop-run : goal.invariant-loop-run
invariant-loop-run l = IsPermutation (flat_map (λ run. run) l.fn.runs.items) (flat_map (λ run. run) l.runs.items ++ l.all)

abbrev pub decreases-loop-run : goal.decreases-loop-run
decreases-loop-run l = vec_len l.runs
