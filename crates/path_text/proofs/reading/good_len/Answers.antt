use Rattle.path_text.proofs.Words.{rest_of}
use Rattle.path_text.proofs.Readable.{good_step}
use Rattle.path_text.proofs.reading.good_len.Goals as goal

pub loop-at-preserved : goal.loop-at-preserved
loop-at-preserved c = good_step c.args.text.now _ c.loop-at.at c.is_bad.result
    (rest_of c.args.text.now c.loop-at.at) c.loop-at-test.true c.is_bad.ensures c.if-is_bad.false c.loop-at.invariant
