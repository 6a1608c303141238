use Rattle.tree_cmp.proofs.Prelude.{side}
use Rattle.tree_cmp.proofs.merging.Ends.pop_if.Goals as goal

pub returns-in_err-next-clause-side : goal.returns-in_err-next-clause-side
returns-in_err-next-clause-side c = λ i. side (c.in_err-next.ensures.top i) (c.in_err-next.ensures.list i)

pub returns-clause-side : goal.returns-clause-side
returns-clause-side c = λ i. side (c.in_ok-next.ensures.top i) (c.in_ok-next.ensures.list i)
