use Rattle.outside.proofs.Prelude.{arith}
use Rattle.outside.proofs.AllPaths.{one_more, all_valid}
use Rattle.outside.proofs.leases.tell.Goals as goal

pub loop-path-init : goal.loop-path-init
loop-path-init c = λ i x l. absurd (omega (arith, l))

pub loop-path-preserved : goal.loop-path-preserved
loop-path-preserved c = one_more c.args.paths.now c.loop-path.path-index c.path-item.result c.path-item.is c.text.ensures.valid c.loop-path.invariant

pub returns : goal.returns
returns c = all_valid c.args.paths.now c.loop-path.path-index c.loop-path-test.false c.loop-path.invariant
