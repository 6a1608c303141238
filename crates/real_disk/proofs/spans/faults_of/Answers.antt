use Rattle.real_disk.proofs.Prelude.{◌≡◌, ◌+◌, ap, arith, ◌∙◌, take, take_all, sum_by_more, sum_by, capped, count_of}
use Rattle.real_disk.proofs.spans.faults_of.Goals as goal

pub loop-span-preserved : goal.loop-span-preserved
loop-span-preserved g c =
    let spans = c.args.spans.now in
    let i = c.loop-span.span-index in
    let more = sum_by_more count_of spans i c.span-item.result c.loop-span-test.true in
    let is = ap count_of c.span-item.is in
    let sum : c.saturating_add-count.result ≡ capped 0 (sum_by count_of (take (i + 1) spans)) =
    grind (arith, more, is, c.failed.ensures, c.saturating_add-count.ensures, c.loop-span.invariant) in
    sum

pub returns : goal.returns
returns g c =
    c.loop-span.invariant
    ∙ ap (λ l. capped 0 (sum_by count_of l)) (take_all c.loop-span.span-index c.args.spans.now (omega (arith, c.loop-span-test.false)))
