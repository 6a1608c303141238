use Rattle.find_tests.proofs.Prelude.{◌≡◌, ◌-◌, ◌^◌, min, take, decimal}
use Rattle.find_tests.proofs.bounds.decimal.Given as goal

abbrev pub invariant-loop-digit : goal.invariant-loop-digit
invariant-loop-digit l = l.number ≡ min (decimal (take l.digit-index l.digits)) (2 ^ 128 - 1)
