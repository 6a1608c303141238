use Rattle.compare_report.proofs.Prelude.{IsPassed}
use Rattle.compare_report.proofs.picking.seek.Given as goal

abbrev pub invariant-loop-at : goal.invariant-loop-at
invariant-loop-at l = IsPassed l.all l.at l.sought
