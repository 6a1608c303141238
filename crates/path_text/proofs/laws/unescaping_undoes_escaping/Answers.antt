use Rattle.path_text.proofs.Readable.{unescaping_undoes_escaping}
use Rattle.path_text.proofs.laws.unescaping_undoes_escaping.Goals as goal

pub returns : goal.returns
returns c = unescaping_undoes_escaping
