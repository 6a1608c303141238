-- The law of dcmp. Our own.
use Rattle.tool_words.specs.Limits.{WithinCompare}
use Rattle.tool_words.specs.Asked.{CompareAsked}
use Rattle.run_report.specs.Sides.{Side}
use Rattle.run_report.specs.Stops.{Succeeds}
use Rattle.compare_report.specs.Comparing.{ReportsCompare, StopsCompare, FineCompare}

-- where nothing stands against dcmp it names nothing, and stops for want of memory alone
abbrev pub FineCompareSucceeds : Type 0
FineCompareSucceeds =
    (asked : CompareAsked) (before after : Side) → WithinCompare asked → FineCompare asked before after
    → Succeeds (ReportsCompare asked before after) (StopsCompare asked before after)
