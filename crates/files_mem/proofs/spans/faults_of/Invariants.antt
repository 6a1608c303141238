use Rattle.files_mem.proofs.Prelude.{◌≡◌, take, sum_by, capped}
use Rattle.files_mem.proofs.spans.faults_of.Given as goal

abbrev pub invariant-loop-span : goal.invariant-loop-span
invariant-loop-span l = l.count ≡ capped 0 (sum_by (λ span. span.count) (take l.span-index l.spans))
