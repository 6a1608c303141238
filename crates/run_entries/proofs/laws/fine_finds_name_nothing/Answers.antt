use Rattle.run_entries.proofs.Fine.{names_nothing}
use Rattle.run_entries.proofs.laws.fine_finds_name_nothing.Goals as goal

pub returns : goal.returns
returns c =
    names_nothing (record { walks = c.walk_without_faults_is_fine.ensures; one_roots = c.roots_are_unique.ensures }) c.spelling_is_unique.ensures
    c.looks_without_faults_are_told.ensures c.nothing_to_order.ensures
