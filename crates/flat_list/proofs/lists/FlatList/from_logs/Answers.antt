use Rattle.flat_list.proofs.Prelude.{IsPermutation-trans}
use Rattle.flat_list.proofs.lists.FlatList.from_logs.Goals as goal

pub returns-clause-all : goal.returns-clause-all
returns-clause-all g c = IsPermutation-trans _ _ _ c.in_ok-runs.ensures c.in_ok-list.ensures.all
