use Rattle.files_mem.proofs.Prelude.{◌≡◌, length, take, sum_by}
use Rattle.files_mem.proofs.spans.room_for.Given as goal

abbrev pub invariant-loop-span : goal.invariant-loop-span
invariant-loop-span l = l.whole ≡ sum_by (λ span. length span.bytes) (take l.span-index l.spans)
