use Rattle.path_text.proofs.Readable.{reading_undoes_writing}
use Rattle.path_text.proofs.laws.reading_undoes_writing.Goals as goal

pub returns : goal.returns
returns c = reading_undoes_writing
