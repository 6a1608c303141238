use Rattle.real_disk.proofs.Prelude.{◌≡◌, take, sum_by, capped, count_of}
use Rattle.real_disk.proofs.spans.faults_of.Given as goal

abbrev pub invariant-loop-span : goal.invariant-loop-span
invariant-loop-span g l = l.count ≡ capped 0 (sum_by count_of (take l.span-index l.spans))
