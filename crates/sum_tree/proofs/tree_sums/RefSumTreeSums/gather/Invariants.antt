use Rattle.sum_tree.proofs.Prelude.{◌≡◌, true, length}
use Rattle.sum_tree.proofs.GatherLemmas.{Together}
use Rattle.sum_tree.proofs.tree_sums.RefSumTreeSums.gather.Given as goal

abbrev pub invariant-loop-other : goal.invariant-loop-other
invariant-loop-other l = record {
  table : l.first.table_id ≡ l.fn.self.now.table.shared.table_id;
  tree : l.self ≡ l.fn.self;
  live : l.first.me.0.live ≡ true;
  together : Together l.fn.self.now.n l.fn.all.items l.all.items l.first.me.0 l.total;
}

abbrev pub decreases-loop-other : goal.decreases-loop-other
decreases-loop-other l = length l.all.items
