use Rattle.range_copy.proofs.Prelude.{◌≡◌, ◌-◌, ◌≤◌, length, AllSee, AreFresh, AreIdle, AreFreshBy}
use Rattle.range_copy.proofs.copying.hired.Given as goal

-- the fillers so far
abbrev pub invariant-loop-alloc : goal.invariant-loop-alloc
invariant-loop-alloc g l = record {
  inside : length l.fillers.items ≤ l.number;
  see : AllSee g.G.Reader.Tree.tree (g.G.Plot.tree l.fn.ground) l.fillers.items;
  fresh : AreFresh g.G.Reader.Tree.count l.fillers.items;
  shown : AreFreshBy g.G.Reader.Tree.gives l.source l.fillers.items;
  idle : AreIdle l.fillers.items;
  same : g.G.Plot.tree l.ground ≡ g.G.Plot.tree l.fn.ground;
  area : g.G.Plot.area l.ground ≡ g.G.Plot.area l.fn.ground;
  count : g.G.Plot.count l.ground ≡ g.G.Plot.count l.fn.ground;
}

abbrev pub decreases-loop-alloc : goal.decreases-loop-alloc
decreases-loop-alloc g l = l.number - length l.fillers.items
