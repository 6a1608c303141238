use Rattle.flat_list.proofs.Cuts.{last_behind}
use Rattle.flat_list.proofs.lists.FlatList.packed_back.Goals as goal

pub loop-last-preserved : goal.loop-last-preserved
loop-last-preserved c = last_behind c.args.entries.now c.loop-last.left.now c.in-Some.before.now c.loop-last.list c.add.new.self c.in-Some.last.now
    c.loop-last.invariant c.in-Some.ensures.cases.0 c.in_ok-add.ensures.ok
