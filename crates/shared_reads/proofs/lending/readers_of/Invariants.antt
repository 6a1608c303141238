use Rattle.shared_reads.proofs.Prelude.{◌≡◌, ◌-◌, ◌≤◌, length, sum_by}
use Rattle.std.specs.List.{All}
use Rattle.shared_reads.proofs.lending.readers_of.Given as goal

-- the readers so far
abbrev pub invariant-loop-alloc : goal.invariant-loop-alloc
invariant-loop-alloc g l = record {
  inside : length l.readers.items ≤ l.n;
  told : All (λ r. g.G.Reader.Tree.tree r ≡ g.G.Plot.tree l.fn.files) l.readers.items;
  zero : sum_by g.G.Reader.Tree.count l.readers.items ≡ 0;
  same : g.G.Plot.tree l.files ≡ g.G.Plot.tree l.fn.files;
  area : g.G.Plot.area l.files ≡ g.G.Plot.area l.fn.files;
  count : g.G.Plot.count l.files ≡ g.G.Plot.count l.fn.files;
}

abbrev pub decreases-loop-alloc : goal.decreases-loop-alloc
decreases-loop-alloc g l = l.n - length l.readers.items
