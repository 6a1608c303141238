use Rattle.level_work.proofs.Prelude.{HaveCome, Upto, part_tree, part_area, part_count}
use Rattle.level_work.proofs.lots.Lot.work.Given as goal

abbrev pub invariant-loop-j : goal.invariant-loop-j
invariant-loop-j g l = record {
  upto : Upto (part_tree g.P.Plot.tree) (part_area g.P.Plot.area) (part_count g.P.Plot.count) g.A.Act.plain g.A.Act.count g.A.Act.deed l.j
      l.items l.fn.self l.self;
  came : HaveCome g.A.Act.who g.A.Act.may_come l.items l.fn.self l.self;
}
