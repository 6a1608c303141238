use Rattle.path_text.proofs.Parts.{first_cut}
use Rattle.path_text.proofs.paths.names.Goals as goal

pub range_from-requires : goal.range_from-requires
range_from-requires c = λ z. first_cut c.args.path.now c.requires.path c.utf8.path
