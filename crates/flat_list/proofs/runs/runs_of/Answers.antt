use Rattle.flat_list.proofs.Prelude.{IsPermutation-trans}
use Rattle.flat_list.proofs.runs.runs_of.Goals as goal

pub returns : goal.returns
returns c = IsPermutation-trans _ _ _ c.in_ok-cut.ensures c.in_ok-runs.ensures
