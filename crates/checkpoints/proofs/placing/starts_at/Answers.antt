use Rattle.checkpoints.proofs.Prelude.{◌∙◌, ap, sym, eqb, pointwise, Left, numbered}
use Rattle.checkpoints.proofs.Paired.{pair}
use Rattle.checkpoints.proofs.Numbers.{at_map, starts_here}
use Rattle.checkpoints.proofs.placing.starts_at.Goals as goal

pub returns-then-at-lefts : goal.returns-then-at-lefts
returns-then-at-lefts c =
    let lefts = c.args.lefts.now in
    let left = c.index-lefts-at.result in
    c.eq.ensures ∙ ap (λ (l : Left). pointwise eqb l.path.now c.args.path.now) (sym c.index-lefts-at.is)
    ∙ starts_here c.args.path.now (numbered lefts) c.args.at (pair left) (at_map pair lefts c.args.at left c.if-at-lefts.true c.index-lefts-at.is)
