-- What a run tells that stops before it prints its listing: its status, and its line. Our own.
use Rattle.std.specs.Prelude.{◌≡◌, ◌⊎◌, ℕ, ◌++◌, ◌∷◌, [], List, codes, Option, Some, None}
use Rattle.tool_words.specs.declared.errors.Refusal.{Refusal}
use Rattle.run_report.specs.declared.reports.Report.{Report}
use Rattle.run_report.specs.declared.statuses.Status.{Status}
use Rattle.run_report.specs.declared.statuses.Status.TheVariants as status
use Rattle.run_report.specs.declared.stops.Trouble.{Trouble}
use Rattle.run_report.specs.declared.stops.Trouble.TheVariants as trouble
use Rattle.run_report.specs.declared.stops.Stop.{Stop}
use Rattle.run_report.specs.declared.stops.Stop.TheVariants as stop
use Rattle.run_report.specs.Ends.{GrewByLine}
use Rattle.run_report.specs.Lines.{memory_line, refusal_line, list_line, stopped_line, damaged_line}
use Rattle.run_report.specs.Sides.{Stream}

-- the status of each reason
abbrev pub status_of : Stop → Status
status_of stop.OutOfMemory = status.Memory
status_of stop.Overlap = status.Words
status_of stop.NoDirectory = status.Words
status_of stop.TooMany = status.TooMany
status_of (stop.Stopped handled left) = status.Stopped
status_of (stop.Damaged path line) = status.Damaged
status_of (stop.ListFile why path) = status.ListFile

abbrev pub trouble_word : Trouble → List ℕ
trouble_word trouble.Absent = codes "absent"
trouble_word trouble.NoPlace = codes "place"
trouble_word trouble.Fault = codes "fault"

-- and its line
abbrev pub stop_line : Stop → List ℕ
stop_line stop.OutOfMemory = memory_line
stop_line stop.Overlap = codes "refused overlap" ++ 10 ∷ []
stop_line stop.NoDirectory = codes "refused no directory" ++ 10 ∷ []
stop_line stop.TooMany = codes "too many entries" ++ 10 ∷ []
stop_line (stop.Stopped handled left) = stopped_line handled left
stop_line (stop.Damaged path line) = damaged_line path line
stop_line (stop.ListFile why path) = list_line (trouble_word why) path

-- what a run that stopped tells: its line, with its status; or that no memory was found
abbrev pub Told : Stop → Status → Stream → Stream → Type 0
Told why answer old new = ((answer ≡ status_of why) × GrewByLine (stop_line why) old new) ⊎ ((answer ≡ status.Memory) × GrewByLine memory_line old new)

-- what a run tells whose words are refused: the line of the offence; or that no memory was found, where there is no offence too
abbrev pub ToldRefusal : Option Refusal → Status → Stream → Stream → Type 0
ToldRefusal (Some refusal) answer old new =
    ((answer ≡ status.Words) × GrewByLine (refusal_line refusal) old new) ⊎ ((answer ≡ status.Memory) × GrewByLine memory_line old new)
ToldRefusal None answer old new = (answer ≡ status.Memory) × GrewByLine memory_line old new

-- what a tool owes where nothing stands against it: what it reports names nothing, and it stops for want of memory alone
pub record Succeeds (Reports : Report → Type 0) (Stops : Stop → Type 0) : Type 0 where
  pub names_nothing : (report : Report) → Reports report → report.failed ≡ 0
  pub stops_for_memory : (why : Stop) → Stops why → why ≡ stop.OutOfMemory
