use Rattle.outside.proofs.LinkTexts.{link_reading_undoes_writing}
use Rattle.outside.proofs.laws.link_reading_undoes_writing.Goals as goal

pub returns : goal.returns
returns c = link_reading_undoes_writing c.unescaping_undoes_escaping.ensures
