use Rattle.flat_list.proofs.Unique.{spells_one}
use Rattle.flat_list.proofs.laws.spelling_is_unique.Goals as goal

pub returns : goal.returns
returns c = spells_one (record { paths = c.reading_undoes_writing.ensures; links = c.link_reading_undoes_writing.ensures })
