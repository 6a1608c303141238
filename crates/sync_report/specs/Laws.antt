-- The law of dsync. Our own.
use Rattle.tool_words.specs.Limits.{WithinSync}
use Rattle.tool_words.specs.Asked.{SyncAsked}
use Rattle.run_report.specs.Sides.{Side}
use Rattle.run_report.specs.Stops.{Succeeds}
use Rattle.sync_report.specs.Syncing.{ReportsSync, StopsSync, FineSync}

-- where nothing stands against dsync it names nothing, and stops for want of memory alone
abbrev pub FineSyncSucceeds : Type 0
FineSyncSucceeds =
    (asked : SyncAsked) (before after : Side) → WithinSync asked → FineSync asked before after →
    Succeeds (ReportsSync asked before after) (StopsSync asked before after)
