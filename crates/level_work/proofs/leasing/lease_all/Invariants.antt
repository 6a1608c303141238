use Rattle.level_work.proofs.Prelude.{◌≡◌, part_tree, part_area, part_count, Leasing}
use Rattle.level_work.proofs.leasing.lease_all.Given as goal

abbrev pub invariant-loop-i : goal.invariant-loop-i
invariant-loop-i g l = record {
  leasing : Leasing (part_tree g.G.Part.Plot.tree) (part_area g.G.Part.Plot.area)
      (part_count g.G.Part.Plot.count) l.i l.items l.fn.lots l.lots (g.G.Plot.area l.ground) (g.G.Plot.tree l.fn.ground)
      (g.G.Plot.tree l.ground);
  count : g.G.Plot.count l.ground ≡ g.G.Plot.count l.fn.ground;
}
