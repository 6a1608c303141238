use Rattle.flat_list.proofs.Prelude.{subst, IsPermutation, all_of}
use Rattle.flat_list.proofs.runs.Cut.into_runs.Goals as goal

pub returns : goal.returns
returns c = subst (IsPermutation (all_of c.args.self)) c.in_ok-end.ensures.all c.in_ok-end.ensures.moved
