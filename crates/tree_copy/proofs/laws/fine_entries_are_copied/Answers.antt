use Rattle.tree_copy.proofs.Fated.{fine_entries_are_copied}
use Rattle.tree_copy.proofs.laws.fine_entries_are_copied.Goals as goal

pub returns : goal.returns
returns c = fine_entries_are_copied
