use Rattle.tree_copy.proofs.Prelude.{◌≡◌, ◌+◌, ◌-◌, ◌^◌, ◌<◌, ◌≤◌, min, sum_by}
use Rattle.tree_copy.proofs.working.take_back.Given as goal

-- the counts that were added so far
abbrev pub invariant-loop-copier : goal.invariant-loop-copier
invariant-loop-copier g l = record {
  same : g.G.Plot.tree l.ground ≡ g.G.Plot.tree l.fn.ground;
  area : g.G.Plot.area l.ground ≡ g.G.Plot.area l.fn.ground;
  kept : g.G.Plot.count l.fn.ground ≤ g.G.Plot.count l.ground;
  count : g.G.Plot.count l.fn.ground < 2 ^ 64 →
      g.G.Plot.count l.ground ≡ min (g.G.Plot.count l.fn.ground + sum_by (λ c. g.G.Reader.Tree.count c.reader) l.yielded) (2 ^ 64 - 1);
}
