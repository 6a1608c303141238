-- The law of ddup. Our own.
use Rattle.tool_words.specs.Limits.{WithinDup}
use Rattle.tool_words.specs.Asked.{DupAsked}
use Rattle.run_report.specs.Sides.{Side}
use Rattle.run_report.specs.Stops.{Succeeds}
use Rattle.dup_report.specs.Grouping.{ReportsDup, StopsDup, FineDup}

-- where nothing stands against ddup it names nothing, and stops for want of memory alone
abbrev pub FineDupSucceeds : Type 0
FineDupSucceeds =
    (asked : DupAsked) (before after : Side) → WithinDup asked → FineDup asked before after →
    Succeeds (ReportsDup asked before after) (StopsDup asked before after)
