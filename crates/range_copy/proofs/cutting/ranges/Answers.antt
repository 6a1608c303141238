use Rattle.range_copy.proofs.Prelude.{arith}
use Rattle.range_copy.proofs.Multiples.{next_step, are_all, cut_few, cut_right, cut_whole}
use Rattle.range_copy.proofs.cutting.ranges.Goals as goal

pub loop-k-preserved : goal.loop-k-preserved
loop-k-preserved c =
    next_step c.step_of-step.result c.loop-k.k c.place_of.result c.loop-k.cuts.items c.push.new.self.items c.in_ok-push.ensures.items
    c.loop-k.invariant c.place_of.ensures

pub returns-clause-ranges : goal.returns-clause-ranges
returns-clause-ranges c =
    are_all c.args.size c.args.piece c.step_of-step.result c.loop-k.k c.loop-k.cuts.items c.push-2.new.self.items
    c.step_of-step.ensures c.loop-k.invariant (omega (arith, c.loop-k-test.false, c.loop-k.auto.k-end)) c.in_ok-push-2.ensures.items

pub returns-clause-cuts : goal.returns-clause-cuts
returns-clause-cuts c =
    cut_right c.args.size c.args.piece c.push-2.new.self.items c.requires.piece (omega (arith, c.requires.larger))
    (are_all c.args.size c.args.piece c.step_of-step.result c.loop-k.k c.loop-k.cuts.items c.push-2.new.self.items
    c.step_of-step.ensures c.loop-k.invariant (omega (arith, c.loop-k-test.false, c.loop-k.auto.k-end)) c.in_ok-push-2.ensures.items)

pub returns-clause-whole : goal.returns-clause-whole
returns-clause-whole c =
    cut_whole c.args.size c.args.piece c.push-2.new.self.items
    (are_all c.args.size c.args.piece c.step_of-step.result c.loop-k.k c.loop-k.cuts.items c.push-2.new.self.items
    c.step_of-step.ensures c.loop-k.invariant (omega (arith, c.loop-k-test.false, c.loop-k.auto.k-end)) c.in_ok-push-2.ensures.items)

pub returns-clause-most : goal.returns-clause-most
returns-clause-most c =
    cut_few c.args.size c.args.piece c.push-2.new.self.items c.requires.piece
    (are_all c.args.size c.args.piece c.step_of-step.result c.loop-k.k c.loop-k.cuts.items c.push-2.new.self.items
    c.step_of-step.ensures c.loop-k.invariant (omega (arith, c.loop-k-test.false, c.loop-k.auto.k-end)) c.in_ok-push-2.ensures.items)
