use Rattle.base_tests.proofs.Prelude.{length}
use Rattle.base_tests.proofs.leasing.+place_of.Given as goal

abbrev pub decreases-place_of : goal.decreases-place_of
decreases-place_of l = length l.out.now
