use Rattle.run_entries.proofs.Fine.{walks_name_nothing}
use Rattle.run_entries.proofs.laws.fine_walks_name_nothing.Goals as goal

pub returns : goal.returns
returns c = walks_name_nothing (record { walks = c.walk_without_faults_is_fine.ensures; one_roots = c.roots_are_unique.ensures })
