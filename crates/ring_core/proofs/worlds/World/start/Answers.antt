use Rattle.ring_core.proofs.Prelude.{length, arith, ap, ◌∙◌, map-range_with_len_more, length-map-range_with_len, dealt, fresh}
use Rattle.ring_core.proofs.worlds.World.start.Goals as goal

pub loop-rank-preserved : goal.loop-rank-preserved
loop-rank-preserved c = let e =
    map-range_with_len_more (λ r. fresh (dealt c.args.n c.args.starts r)) 0 c.loop-rank.rank c.loop-rank.rank (omega arith) in
    cc c.in_ok-push.ensures.items

pub invariant_of-result : goal.invariant_of-result
invariant_of-result c = let e = ap length c.loop-rank.invariant
    ∙ length-map-range_with_len (λ r. fresh (dealt c.args.n c.args.starts r)) 0 c.loop-rank.rank in omega arith
