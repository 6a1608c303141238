use Rattle.checkpoints.proofs.Fine.{reads_for_memory}
use Rattle.checkpoints.proofs.laws.fine_reads_stop_for_memory.Goals as goal

pub returns : goal.returns
returns c = reads_for_memory (record {
  list = c.spelling_is_unique.ensures;
  refusals = c.refusals_are_exact.ensures;
  ranks = c.spelling_is_unique-2.ensures;
  damage = c.damage_is_exact.ensures;
  back = c.reading_undoes_saving.ensures;
})
