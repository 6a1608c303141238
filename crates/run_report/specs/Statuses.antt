-- The exit statuses. 0 and 1 are as with find and diff; the others are our own.
use Rattle.std.specs.Prelude.{ℕ, Bool, true, false}
use Rattle.run_report.specs.declared.statuses.Status.{Status}
use Rattle.run_report.specs.declared.statuses.Status.TheVariants as status

-- the number that the program ends with
abbrev pub number_of : Status → ℕ
number_of status.Done = 0
number_of status.Named = 1
number_of status.Words = 2
number_of status.Memory = 3
number_of status.Sink = 4
number_of status.TooMany = 5
number_of status.Stopped = 6
number_of status.Damaged = 7
number_of status.ListFile = 8

-- whether a run whose words were read ends so for a reason that it names in its one line
abbrev pub has_reason : Status → Bool
has_reason status.Done = false
has_reason status.Named = false
has_reason status.Words = true
has_reason status.Memory = false
has_reason status.Sink = false
has_reason status.TooMany = true
has_reason status.Stopped = true
has_reason status.Damaged = true
has_reason status.ListFile = true
