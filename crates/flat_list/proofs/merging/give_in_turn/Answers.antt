use Rattle.flat_list.proofs.Prelude.{rules, IsPermutation-trans}
use Rattle.flat_list.proofs.Merged.{one_gives}
use Rattle.flat_list.proofs.merging.give_in_turn.Goals as goal

pub loop-preserved : goal.loop-preserved
loop-preserved c =
    let moved = one_gives c.loop.all c.give.new.all c.loop.sources.items c.loop.turn.at c.index_mut.result.now c.give.new.self (search rules) (search rules)
    c.in_ok-give.ensures.moved in
    IsPermutation-trans _ _ _ c.loop.invariant moved
