use Rattle.stage_report.proofs.Succeeds.{stage_succeeds}
use Rattle.stage_report.proofs.laws.fine_stages_succeed.Goals as goal

pub returns : goal.returns
returns c =
    stage_succeeds
    (record {
      one_roots = c.roots_are_unique.ensures;
      one_kept = c.checkpoints_are_one.ensures;
      walks = c.walk_without_faults_is_fine.ensures;
      reads = c.fine_reads_stop_for_memory.ensures;
      writes = c.fine_writes_stop_for_memory.ensures;
      places = c.fine_places_stop_for_memory.ensures;
      notes = c.nothing_to_order.ensures;
    })
