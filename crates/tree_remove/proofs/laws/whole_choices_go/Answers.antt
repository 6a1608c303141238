use Rattle.tree_remove.proofs.Whole.{whole_choices_go}
use Rattle.tree_remove.proofs.laws.whole_choices_go.Goals as goal

pub returns : goal.returns
returns c = whole_choices_go
