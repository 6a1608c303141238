use Rattle.checkpoints.proofs.Prelude.{map, arith, Vec, Global, List, ℕ, Path}
use Rattle.checkpoints.proofs.Numbers.{at_map, place_found, number_more}
use Rattle.checkpoints.proofs.placing.place_of.Goals as goal

abbrev items : Vec Path Global → List (List ℕ)
items v = v.items

pub returns-then-left-len-clause-place : goal.returns-then-left-len-clause-place
returns-then-left-len-clause-place c =
    let lists = c.args.lists.now in
    let rank = c.loop-rank.rank in
    place_found (map items lists) rank c.index-lists-rank.result.items c.loop-rank.left c.args.number
    (at_map items lists rank c.index-lists-rank.result c.loop-rank-test.true c.index-lists-rank.is) c.loop-rank.invariant
    (omega (arith, c.if-left-len.true, c.len.ensures))

pub loop-rank-preserved : goal.loop-rank-preserved
loop-rank-preserved c =
    let lists = c.args.lists.now in
    let rank = c.loop-rank.rank in
    let more = number_more (map items lists) rank c.index-lists-rank.result.items
    (at_map items lists rank c.index-lists-rank.result c.loop-rank-test.true c.index-lists-rank.is) in
    omega (arith, more, c.loop-rank.invariant, c.if-left-len.false, c.len.ensures, c.len-left.ensures)
