use Rattle.run_entries.proofs.Done.{done_names_nothing}
use Rattle.run_entries.proofs.laws.done_names_nothing.Goals as goal

pub returns : goal.returns
returns c = done_names_nothing
