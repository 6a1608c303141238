-- The law of drm. Our own.
use Rattle.std.specs.Prelude.{ℕ}
use Rattle.tool_words.specs.Limits.{WithinRemove}
use Rattle.tool_words.specs.Asked.{RemoveAsked}
use Rattle.run_report.specs.Sides.{Side}
use Rattle.run_report.specs.Stops.{Succeeds}
use Rattle.remove_report.specs.Removing.{ReportsRemove, StopsRemove, FineRemove}

-- where nothing stands against drm it names nothing, and stops for want of memory alone
abbrev pub FineRemoveSucceeds : Type 0
FineRemoveSucceeds =
    (asked : RemoveAsked) (now : ℕ) (before after : Side) → WithinRemove asked → FineRemove asked now before after →
    Succeeds (ReportsRemove asked now before after) (StopsRemove asked before after)
