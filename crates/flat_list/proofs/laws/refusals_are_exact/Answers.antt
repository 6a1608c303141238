use Rattle.flat_list.proofs.Unique.{refuses_exactly}
use Rattle.flat_list.proofs.laws.refusals_are_exact.Goals as goal

pub returns : goal.returns
returns c = refuses_exactly (record { paths = c.reading_undoes_writing.ensures; links = c.link_reading_undoes_writing.ensures })
