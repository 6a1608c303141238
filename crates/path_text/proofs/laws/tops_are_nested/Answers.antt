use Rattle.path_text.proofs.Within.{tops_are_nested}
use Rattle.path_text.proofs.laws.tops_are_nested.Goals as goal

pub returns : goal.returns
returns c = tops_are_nested
