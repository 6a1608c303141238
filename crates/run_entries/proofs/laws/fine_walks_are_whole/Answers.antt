use Rattle.run_entries.proofs.Fine.{walks_are_whole}
use Rattle.run_entries.proofs.laws.fine_walks_are_whole.Goals as goal

pub returns : goal.returns
returns c = walks_are_whole (record { walks = c.walk_without_faults_is_fine.ensures; one_roots = c.roots_are_unique.ensures })
