use Rattle.ring_core.proofs.Prelude.{arith, nat_tests}
use Rattle.ring_core.proofs.Dealing.{dealt_is}
use Rattle.ring_core.proofs.worlds.dealt.Goals as goal

pub returns-then-rank-starts : goal.returns-then-rank-starts
returns-then-rank-starts c = let e = dealt_is c.args.n c.args.starts c.args.rank c.requires in grind (arith, nat_tests)

pub returns-else-rank-starts : goal.returns-else-rank-starts
returns-else-rank-starts c = let e = dealt_is c.args.n c.args.starts c.args.rank c.requires in grind (arith, nat_tests)
