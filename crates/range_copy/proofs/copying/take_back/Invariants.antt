use Rattle.range_copy.proofs.Prelude.{◌≡◌, ◌+◌, ◌-◌, ◌^◌, ◌<◌, ◌≤◌, min, reader_faults}
use Rattle.range_copy.proofs.copying.take_back.Given as goal

-- the counts that were added so far
abbrev pub invariant-loop-one : goal.invariant-loop-one
invariant-loop-one g l = record {
  same : g.G.Plot.tree l.ground ≡ g.G.Plot.tree l.fn.ground;
  area : g.G.Plot.area l.ground ≡ g.G.Plot.area l.fn.ground;
  kept : g.G.Plot.count l.fn.ground ≤ g.G.Plot.count l.ground;
  count : g.G.Plot.count l.fn.ground < 2 ^ 64 →
      g.G.Plot.count l.ground ≡ min (g.G.Plot.count l.fn.ground + reader_faults g.G.Reader.Tree.count l.yielded) (2 ^ 64 - 1);
}
