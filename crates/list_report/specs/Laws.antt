-- The laws of dwalk, dfind and dtest. Our own.
use Rattle.std.specs.Prelude.{ℕ, ◌≤◌, ◌∷◌, []}
use Rattle.test_tree.specs.Nodes.{test_files}
use Rattle.tool_words.specs.Limits.{WithinList, WithinTest}
use Rattle.tool_words.specs.Asked.{ListAsked, TestAsked}
use Rattle.run_report.specs.Sides.{Side}
use Rattle.run_report.specs.Stops.{Succeeds}
use Rattle.run_entries.specs.Fine.{IsFineWalk}
use Rattle.list_report.specs.Lists.{ReportsList, StopsList, FineList}
use Rattle.list_report.specs.Tests.{made_root, ReportsTest, StopsTest, FineTest}

-- where nothing stands against dwalk or dfind it names nothing, and stops for want of memory alone
abbrev pub FineListSucceeds : Type 0
FineListSucceeds =
    (asked : ListAsked) (now : ℕ) (before after : Side) → WithinList asked → FineList asked before after
    → Succeeds (ReportsList asked now before after) (StopsList asked before after)

-- and so does dtest
abbrev pub FineTestSucceeds : Type 0
FineTestSucceeds = (asked : TestAsked) (now : ℕ) → WithinTest asked → FineTest asked → Succeeds (ReportsTest asked now) StopsTest

-- nothing is left to name in a walk of a made-up tree
abbrev pub MadeWalkIsFine : Type 0
MadeWalkIsFine = (n : ℕ) → 1 ≤ n → n ≤ 1000000 → IsFineWalk (test_files n) (made_root ∷ [])
