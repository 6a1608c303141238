use Rattle.checkpoints.proofs.Prelude.{◌≡◌, ◌+◌, map, take, length, flat_map}
use Rattle.checkpoints.proofs.placing.place_of.Given as goal

abbrev pub invariant-loop-rank : goal.invariant-loop-rank
invariant-loop-rank l = l.number ≡ length (flat_map (λ q. q) (take l.rank (map (λ q. q.items) l.lists))) + l.left
