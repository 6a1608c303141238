use Rattle.checkpoints.proofs.Fine.{one_checkpoint}
use Rattle.checkpoints.proofs.laws.checkpoints_are_one.Goals as goal

pub returns : goal.returns
returns c = one_checkpoint c.spelling_is_unique.ensures c.reading_undoes_saving.ensures
