use Rattle.tree_copy.proofs.Prelude.{◌≡◌, ◌-◌, ◌≤◌, length, All, sum_by}
use Rattle.tree_copy.proofs.working.copiers_of.Given as goal

-- the copiers so far
abbrev pub invariant-loop-alloc : goal.invariant-loop-alloc
invariant-loop-alloc g l = record {
  inside : length l.copiers.items ≤ l.number;
  told : All (λ c. g.G.Reader.Tree.tree c.reader ≡ g.G.Plot.tree l.fn.ground) l.copiers.items;
  zero : sum_by (λ c. g.G.Reader.Tree.count c.reader) l.copiers.items ≡ 0;
  same : g.G.Plot.tree l.ground ≡ g.G.Plot.tree l.fn.ground;
  area : g.G.Plot.area l.ground ≡ g.G.Plot.area l.fn.ground;
  count : g.G.Plot.count l.ground ≡ g.G.Plot.count l.fn.ground;
}

abbrev pub decreases-loop-alloc : goal.decreases-loop-alloc
decreases-loop-alloc g l = l.number - length l.copiers.items
