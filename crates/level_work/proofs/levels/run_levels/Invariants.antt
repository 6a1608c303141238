use Rattle.level_work.proofs.Prelude.{◌≡◌, length, map, mark_at, CameSofar, Turned, Lot}
use Rattle.level_work.proofs.levels.run_levels.Given as goal

abbrev pub invariant-loop-turn : goal.invariant-loop-turn
invariant-loop-turn g l = record {
  turned : Turned g.A.Act.plain g.A.Act.count g.A.Act.deed l.order (length l.levels) l.turn l.items l.fn.lots l.lots l.fates l.failed.set.keys
      (g.G.Plot.area l.ground) (g.G.Plot.tree l.fn.ground) (g.G.Plot.tree l.ground) (g.G.Plot.count l.fn.ground) (g.G.Plot.count l.ground);
  who : map (λ (lot : Lot _ _). g.A.Act.who lot.actor) l.lots ≡ map (λ (lot : Lot _ _). g.A.Act.who lot.actor) l.fn.lots;
  came : CameSofar g.A.Act.may_come (map (λ (lot : Lot _ _). g.A.Act.who lot.actor) l.fn.lots) l.items l.fates l.order
      (mark_at l.order (length l.levels) l.turn);
}
