use Rattle.flat_list.proofs.Prelude.{IsPermutation-trans}
use Rattle.flat_list.proofs.lists.FlatList.from_lists.Goals as goal

pub returns-clause-all : goal.returns-clause-all
returns-clause-all c = IsPermutation-trans _ _ _ c.in_ok-list.ensures c.in_ok-sort_path.ensures.all
