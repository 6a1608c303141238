use Rattle.tree_walk.proofs.Prelude.{◌≡◌, [], length, AllByRecursion}
use Rattle.tree_walk.proofs.walking.made.Given as goal

abbrev pub invariant-loop : goal.invariant-loop
invariant-loop g l = record {
  number : length l.jobs.items ≡ l.counter;
  unused : AllByRecursion (λ job. job.1 ≡ []) l.jobs.items;
  told : AllByRecursion (λ job. g.G.Reader.Tree.tree job.0 ≡ g.G.Plot.tree l.fn.ground) l.jobs.items;
  same : g.G.Plot.tree l.ground ≡ g.G.Plot.tree l.fn.ground;
  area : g.G.Plot.area l.ground ≡ g.G.Plot.area l.fn.ground;
  count : g.G.Plot.count l.ground ≡ g.G.Plot.count l.fn.ground;
}
