use Rattle.tree_cmp.proofs.Prelude.{arith, ap, sum}
use Rattle.tree_cmp.proofs.laws.faults_are_told.Goals as goal

pub returns : goal.returns
returns c = λ failed old new rose same low. omega (arith, rose low, ap sum same)
