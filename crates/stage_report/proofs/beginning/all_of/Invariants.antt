use Rattle.stage_report.proofs.Prelude.{◌≡◌, map, all_of}
use Rattle.stage_report.proofs.beginning.all_of.Given as goal

abbrev pub invariant-loop-list : goal.invariant-loop-list
invariant-loop-list l = l.all.items ≡ all_of (map (λ list. list.items) l.yielded)
