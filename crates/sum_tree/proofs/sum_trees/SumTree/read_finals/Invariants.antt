use Rattle.sum_tree.proofs.Prelude.{◌≡◌, ◌-◌, ◌<◌, ◌^◌, sum_by, range_with_len, seen_of, IsSeat, LoadedFinal}
use Rattle.sum_tree.proofs.ReadLemmas.{SameRank}
use Rattle.sum_tree.proofs.sum_trees.SumTree.read_finals.Given as goal

abbrev pub invariant-loop-child : goal.invariant-loop-child
invariant-loop-child l = record {
  mine : IsSeat l.self l.seat;
  same : SameRank l.fn.seat l.seat;
  loaded : LoadedFinal l.fn.seat.seat.me.0.own l.first (l.child - l.first) l.seat.seat.me.0.own;
  sum : l.sum ≡ sum_by (seen_of l.seat.seat.me.0.own) (range_with_len l.first (l.child - l.first));
  fits : l.sum < 2 ^ 62;
}
