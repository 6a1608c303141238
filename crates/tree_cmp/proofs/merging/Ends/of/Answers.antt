use Rattle.tree_cmp.proofs.Prelude.{side}
use Rattle.tree_cmp.proofs.merging.Ends.of.Goals as goal

pub returns-clause-side : goal.returns-clause-side
returns-clause-side c = λ i. side (c.in_ok-next.ensures.top i) (c.in_ok-next.ensures.list i)
