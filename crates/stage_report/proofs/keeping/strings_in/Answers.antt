use Rattle.stage_report.proofs.Prelude.{arith, ℕ, List, map, Path, number_more, at_map}
use Rattle.std.proofs.Common.{Vec, Global}
use Rattle.stage_report.proofs.keeping.strings_in.Goals as goal

items : Vec Path Global → List (List ℕ)
items v = v.items

pub loop-list-preserved : goal.loop-list-preserved
unfolding items
loop-list-preserved c =
    let lists = c.args.left.now in
    let at = at_map items lists c.loop-list.list-index c.list-item.result c.loop-list-test.true c.list-item.is in
    let more = number_more (map items lists) c.loop-list.list-index c.list-item.result.items at in
    omega (arith, c.loop-list.invariant, more, c.len.ensures, c.in-Some.ensures)
