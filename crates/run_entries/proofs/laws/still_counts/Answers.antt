use Rattle.run_entries.proofs.Done.{still_counts}
use Rattle.run_entries.proofs.laws.still_counts.Goals as goal

pub returns : goal.returns
returns c = still_counts
