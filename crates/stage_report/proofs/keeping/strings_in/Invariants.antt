use Rattle.stage_report.proofs.Prelude.{◌≡◌, map, length, take, all_of}
use Rattle.stage_report.proofs.keeping.strings_in.Given as goal

abbrev pub invariant-loop-list : goal.invariant-loop-list
invariant-loop-list l = l.number ≡ length (all_of (take l.list-index (map (λ list. list.items) l.left)))
