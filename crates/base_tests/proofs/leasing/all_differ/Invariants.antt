use Rattle.base_tests.proofs.Prelude.{◌≡◌, length, all_differ}
use Rattle.base_tests.proofs.leasing.all_differ.Given as goal

-- the paths that were passed stand nowhere behind themselves
abbrev pub invariant-loop-rest : goal.invariant-loop-rest
invariant-loop-rest l = all_differ l.paths ≡ all_differ l.rest

abbrev pub decreases-loop-rest : goal.decreases-loop-rest
decreases-loop-rest l = length l.rest
