-- The meaning of a refusal to remove the list file. Only clauses of this crate's own functions cite this file.
use Rattle.std.specs.Prelude.{◌≡◌, ◌⊎◌, ℕ, List, Result, Ok, Err}
use Rattle.outside.specs.declared.plots.WriteError.{WriteError}
use Rattle.outside.specs.declared.plots.WriteError.TheVariants as write
use Rattle.run_report.specs.declared.stops.Trouble.TheVariants as trouble
use Rattle.run_report.specs.declared.stops.Stop.{Stop}
use Rattle.run_report.specs.declared.stops.Stop.TheVariants as stop

-- a fault stops the call, out of memory too, and every other refusal says that no file is there
abbrev pub IsMeant : WriteError → List ℕ → Result (Unit {0}) Stop → Type 0
IsMeant write.Failed path result = (result ≡ Err stop.OutOfMemory) ⊎ (result ≡ Err (stop.ListFile trouble.Fault path))
IsMeant write.OutOfMemory path result = result ≡ Err stop.OutOfMemory
IsMeant write.Exists path result = result ≡ Ok tt
IsMeant write.NoParent path result = result ≡ Ok tt
IsMeant write.WrongKind path result = result ≡ Ok tt
IsMeant write.NotEmpty path result = result ≡ Ok tt
IsMeant write.Absent path result = result ≡ Ok tt
