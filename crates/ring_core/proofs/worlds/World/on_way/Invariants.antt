use Rattle.ring_core.proofs.Prelude.{◌≡◌, ◌*◌, ◌^◌, ◌≤◌, take, sum_by, RankState, held}
use Rattle.ring_core.proofs.worlds.World.on_way.Given as goal

abbrev pub invariant-loop-rank : goal.invariant-loop-rank
invariant-loop-rank l = record {
  so_far : l.total ≡ sum_by (λ (r : RankState). held r.desk) (take l.rank-index l.rank-items);
  small : l.total ≤ l.rank-index * 2 ^ 64;
}
