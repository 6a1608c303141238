use Rattle.cut_laws.proofs.Sorts.{sorts_are_unique}
use Rattle.cut_laws.proofs.laws.sorts_are_unique.Goals as goal

pub returns : goal.returns
returns c = sorts_are_unique
