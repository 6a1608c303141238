use Rattle.disk_calls.proofs.Prelude.{AreNames}
use Rattle.disk_calls.proofs.names.FoundNames.listing.Given as goal

abbrev pub invariant-loop-name : goal.invariant-loop-name
invariant-loop-name l = AreNames l.path l.listing.0
