use Rattle.run_entries.proofs.Fine.{places_for_memory}
use Rattle.run_entries.proofs.laws.fine_places_stop_for_memory.Goals as goal

pub returns : goal.returns
returns c = places_for_memory
