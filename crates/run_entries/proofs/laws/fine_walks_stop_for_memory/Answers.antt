use Rattle.run_entries.proofs.Fine.{walks_stop_for_memory}
use Rattle.run_entries.proofs.laws.fine_walks_stop_for_memory.Goals as goal

pub returns : goal.returns
returns c = walks_stop_for_memory
    (record { walks = c.walk_without_faults_is_fine.ensures; one_roots = c.roots_are_unique.ensures }) c.refusals_are_exact.ensures
