use Rattle.files_mem.proofs.Prelude.{ap, arith, sum_by_more, Spanned}
use Rattle.files_mem.proofs.spans.faults_of.Goals as goal

pub loop-span-preserved : goal.loop-span-preserved
loop-span-preserved c =
    let more = sum_by_more (λ (s : Spanned). s.count) c.args.spans.now c.loop-span.span-index c.span-item.result c.loop-span-test.true in
    let is = ap (λ (s : Spanned). s.count) c.span-item.is in
    grind (arith, more, is, c.saturating_add-count.ensures, c.loop-span.invariant)
