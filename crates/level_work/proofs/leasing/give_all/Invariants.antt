use Rattle.level_work.proofs.Prelude.{part_tree, part_area, part_count, Giving}
use Rattle.level_work.proofs.leasing.give_all.Given as goal

abbrev pub invariant-loop-i : goal.invariant-loop-i
invariant-loop-i g l = Giving (part_tree g.G.Part.Plot.tree) (part_area g.G.Part.Plot.area)
    (part_count g.G.Part.Plot.count) l.i l.fn.lots l.lots (g.G.Plot.area l.ground) (g.G.Plot.tree l.fn.ground) (g.G.Plot.tree l.ground)
    (g.G.Plot.count l.fn.ground) (g.G.Plot.count l.ground)
