use Rattle.checkpoints.proofs.Prelude.{◌≡◌, map, take, enumerate_from, flat_map, numbered}
use Rattle.checkpoints.proofs.placing.in_order.Given as goal

abbrev pub invariant-loop-list : goal.invariant-loop-list
invariant-loop-list l = numbered l.lefts.items ≡ enumerate_from 0 (flat_map (λ q. q) (take l.list-index (map (λ q. q.items) l.lists)))
