use Rattle.compare_report.proofs.Prelude.{◌≡◌, take, given_paths}
use Rattle.compare_report.proofs.selecting.given_paths.Given as goal

abbrev pub invariant-loop-k : goal.invariant-loop-k
invariant-loop-k l = l.given.items ≡ given_paths l.expr l.dest (take l.k l.compared.rows)
