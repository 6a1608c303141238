-- The law of dcp. Our own.
use Rattle.tool_words.specs.Limits.{WithinCopy}
use Rattle.tool_words.specs.Asked.{CopyAsked}
use Rattle.run_report.specs.Sides.{Side}
use Rattle.run_report.specs.Stops.{Succeeds}
use Rattle.copy_report.specs.Copying.{ReportsCopy, StopsCopy, FineCopy}

-- if nothing is in the way of dcp, it names nothing, and only a lack of memory stops it
abbrev pub FineCopySucceeds : Type 0
FineCopySucceeds =
    (asked : CopyAsked) (before after : Side) → WithinCopy asked → FineCopy asked before after →
    Succeeds (ReportsCopy asked before after) (StopsCopy asked before after)
