use Rattle.path_looks.proofs.Prelude.{eqb, pointwise, dedup_is}
use Rattle.path_looks.proofs.EachOnce.{once, every, none_else}
use Rattle.path_looks.proofs.looking.each_once.Goals as goal

pub returns-clause-once : goal.returns-clause-once
returns-clause-once c =
    once c.sort.new.self.items c.dedup.new.self.items c.in_ok-sort.ensures.sorted (dedup_is (pointwise eqb) _ _ c.dedup.ensures.filtered)

pub returns-clause-every : goal.returns-clause-every
returns-clause-every c =
    every c.args.paths.items c.sort.new.self.items c.dedup.new.self.items c.sort.ensures.permutation (dedup_is (pointwise eqb) _ _ c.dedup.ensures.filtered)

pub returns-clause-none_else : goal.returns-clause-none_else
returns-clause-none_else c =
    none_else c.args.paths.items c.sort.new.self.items c.dedup.new.self.items c.sort.ensures.permutation (dedup_is (pointwise eqb) _ _ c.dedup.ensures.filtered)
