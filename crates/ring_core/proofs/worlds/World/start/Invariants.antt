use Rattle.ring_core.proofs.Prelude.{◌≡◌, map, range_with_len, dealt, fresh}
use Rattle.ring_core.proofs.worlds.World.start.Given as goal

abbrev pub invariant-loop-rank : goal.invariant-loop-rank
invariant-loop-rank l = l.ranks.items ≡ map (λ r. fresh (dealt l.n l.starts r)) (range_with_len 0 l.rank)
