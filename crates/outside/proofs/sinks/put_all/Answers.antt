use Rattle.outside.proofs.Prelude.{◌∙◌, arith}
use Rattle.outside.proofs.Sent.{sent_more}
use Rattle.outside.proofs.sinks.put_all.Goals as goal

pub loop-at-preserved : goal.loop-at-preserved
loop-at-preserved g c =
    let put = c.in_ok-at.ensures in
    record {
      inside = grind arith;
      sent = sent_more _ _ _ c.args.bytes.now c.loop-at.at c.in_ok-at.field-0 (grind arith) c.loop-at.invariant.sent put.grew;
      tells = put.tells ∙ c.loop-at.invariant.tells;
      count = record { kept = omega arith; rose = omega arith };
    }

pub returns-in_err-at-clause-tells : goal.returns-in_err-at-clause-tells
returns-in_err-at-clause-tells g c = c.in_err-at.ensures.tells ∙ c.loop-at.invariant.tells
