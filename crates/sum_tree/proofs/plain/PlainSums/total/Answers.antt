use Rattle.sum_tree.proofs.Prelude.{◌≡◌, ap, arith, sum_by_more_le, uncounted, SumShown, RankSum}
use Rattle.sum_tree.proofs.Rows.{words_are}
use Rattle.sum_tree.proofs.Seats.{total_fits}
use Rattle.sum_tree.proofs.plain.PlainSums.total.Goals as goal

pub overflow_add-total : goal.overflow_add-total
overflow_add-total c =
    let own : c.seat.inside.count ≡ c.args.seat.now.count = ap (λ (s : SumShown). s.count) c.seat.view_is in
    let so_far = c.loop-child.invariant in
    let more = sum_by_more_le (λ (x : RankSum). x.word) c.children-child-items.result.now c.loop-child.child-index uncounted c.loop-child-test.true in
    let all = words_are c.args.self.now c.args.seat.now.number c.children-child-items.result.now c.children-child-items.ensures in
    let small = total_fits c.args.self.now c.args.seat.now c.requires in
    omega arith
