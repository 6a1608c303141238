use Rattle.circle_lists.proofs.Unique.{spells_one}
use Rattle.circle_lists.proofs.laws.spelling_is_unique.Goals as goal

pub returns : goal.returns
returns c = spells_one c.reading_undoes_writing.ensures
