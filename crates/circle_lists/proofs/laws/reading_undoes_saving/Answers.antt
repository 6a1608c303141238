use Rattle.circle_lists.proofs.Unique.{reads_back}
use Rattle.circle_lists.proofs.laws.reading_undoes_saving.Goals as goal

pub returns : goal.returns
returns c = reads_back c.reading_undoes_writing.ensures
