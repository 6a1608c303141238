use Rattle.tree_copy.proofs.Prelude.{◌^◌, ◌<◌, sym, arith, rules, count_by, is_failed, if_ok}
use Rattle.tree_copy.proofs.Readers.{acted_by, alike, all_show, dirs_by, rose_by}
use Rattle.tree_copy.proofs.working.work.Goals as goal

pub on_levels-outcome-requires-clause-alike : goal.on_levels-outcome-requires-clause-alike
on_levels-outcome-requires-clause-alike g c κs within = alike _ (g.G.Plot.tree c.args.ground.now) c.in_ok-copiers.copiers.items c.in_ok-copiers.ensures.told

pub on_levels-outcome-requires-clause-dirs : goal.on_levels-outcome-requires-clause-dirs
on_levels-outcome-requires-clause-dirs g c κs within = λ d show.
    dirs_by _ (g.G.Plot.tree c.args.ground.now) (g.G.Plot.tree c.copiers_of.new.ground) d c.in_ok-copiers.copiers.items c.args.items.now
    c.in_ok-copiers.ensures.same
    (omega (arith, c.in_ok-copiers.ensures.number, c.number_of_copiers-number.ensures)) c.in_ok-copiers.ensures.told show c.requires.dirs

pub returns-clause-told : goal.returns-clause-told
returns-clause-told g c =
    if_ok _ _ c.on_levels-outcome.result (λ fates h. acted_by (g.G.Plot.tree c.args.ground.now) (g.G.Plot.tree c.copiers_of.new.ground)
    (g.G.Plot.tree c.take_back.new.ground)
    (g.G.Plot.tree c.on_levels-outcome.new.ground) c.args.items.now fates c.in_ok-copiers.ensures.same (sym c.take_back.ensures.same)
    (h (g.G.Plot.tree c.args.ground.now) (all_show _ (g.G.Plot.tree c.args.ground.now) c.in_ok-copiers.copiers.items c.in_ok-copiers.ensures.told)))
    c.on_levels-outcome.ensures.told

pub returns-clause-blamed : goal.returns-clause-blamed
returns-clause-blamed g c =
    let count = g.G.Plot.count in
    let below : count c.on_levels-outcome.new.ground < 2 ^ 64 = search rules in
    if_ok _ _ c.on_levels-outcome.result (λ fates h. rose_by _ c.in_ok-copiers.copiers.items c.on_levels-outcome.new.actors.items (count_by is_failed fates)
    (count c.args.ground.now)
    (count c.copiers_of.new.ground) (count c.on_levels-outcome.new.ground) (count c.take_back.new.ground) c.in_ok-copiers.ensures.count
    c.in_ok-copiers.ensures.zero c.on_levels-outcome.ensures.kept
    c.take_back.ensures.kept (c.take_back.ensures.count below) h) c.on_levels-outcome.ensures.blamed

pub returns-clause-each_may_come : goal.returns-clause-each_may_come
returns-clause-each_may_come g c =
    if_ok _ _ c.on_levels-outcome.result (λ fates each k x f at has off. (each k x f at has off).may) c.on_levels-outcome.ensures.each_may_come
