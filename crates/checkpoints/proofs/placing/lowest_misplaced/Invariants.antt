use Rattle.checkpoints.proofs.Prelude.{option_copied, numbered}
use Rattle.checkpoints.proofs.Looked.{Stands}
use Rattle.checkpoints.proofs.placing.lowest_misplaced.Given as goal

abbrev pub invariant-loop-at : goal.invariant-loop-at
invariant-loop-at l =
    Stands l.done (numbered l.lefts) (record { at = l.at; ahead = l.ahead; closed = l.closed; above = option_copied l.above; lowest = l.lowest })
