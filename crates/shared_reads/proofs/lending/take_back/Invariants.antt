use Rattle.shared_reads.proofs.Prelude.{◌≡◌, ◌+◌, ◌-◌, ◌^◌, ◌<◌, min, sum_by}
use Rattle.shared_reads.proofs.lending.take_back.Given as goal

-- the counts that were added so far
abbrev pub invariant-loop-reader : goal.invariant-loop-reader
invariant-loop-reader g l = record {
  same : g.G.Plot.tree l.files ≡ g.G.Plot.tree l.fn.files;
  area : g.G.Plot.area l.files ≡ g.G.Plot.area l.fn.files;
  count : g.G.Plot.count l.fn.files < 2 ^ 64 → g.G.Plot.count l.files ≡ min (g.G.Plot.count l.fn.files + sum_by g.G.Reader.Tree.count l.yielded) (2 ^ 64 - 1);
}
