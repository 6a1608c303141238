use Rattle.tree_walk.proofs.Prelude.{◌≡◌, ◌<◌, ◌^◌, flat_map, sum_by, AllByRecursion, RoseBy, weight_of, IsAnswered, Holds, entries_of}
use Rattle.tree_walk.proofs.walking.opened.Given as goal

abbrev pub invariant-loop-job : goal.invariant-loop-job
invariant-loop-job g l = record {
  logs : flat_map (λ log. log) l.logs.items ≡ entries_of (flat_map (λ job. job.1) l.yielded);
  holds : AllByRecursion (λ job. Holds (g.G.Reader.Tree.tree job.0) (g.G.Reader.Tree.count job.0) job.1) l.yielded;
  answered : AllByRecursion (IsAnswered g.G.Reader.Tree.gives) (flat_map (λ log. log) l.logs.items);
  counted : RoseBy (sum_by weight_of (entries_of (flat_map (λ job. job.1) l.yielded))) (g.G.Plot.count l.fn.ground) (g.G.Plot.count l.ground);
  below : g.G.Plot.count l.ground < 2 ^ 64;
  same : g.G.Plot.tree l.ground ≡ g.G.Plot.tree l.fn.ground;
  area : g.G.Plot.area l.ground ≡ g.G.Plot.area l.fn.ground;
}
