use Rattle.flat_list.proofs.Prelude.{IsPermutation-trans}
use Rattle.flat_list.proofs.lists.FlatList.from_jobs.Goals as goal

pub returns-clause-all : goal.returns-clause-all
returns-clause-all c = IsPermutation-trans _ _ _ c.in_ok-runs.ensures c.in_ok-list.ensures.all
