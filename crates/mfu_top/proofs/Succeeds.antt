-- When a run succeeds, a line a tool.
use Rattle.mfu_top.proofs.Prelude.{inl, ℕ, Asked, list, stage, compare, copy, sync, dup, remove, test, FineCompareSucceeds, FineCopySucceeds, FineDupSucceeds}
use Rattle.mfu_top.proofs.Prelude.{FineListSucceeds, FineTestSucceeds, FineRemoveSucceeds, FineStageSucceeds, FineSyncSucceeds, Side, Succeeds, Reports, Stops}
use Rattle.mfu_top.proofs.Prelude.{RunSucceeds, FineRunsSucceed}

-- the law of each room
pub record Rooms : Type 0 where
  pub lists : FineListSucceeds
  pub stages : FineStageSucceeds
  pub compares : FineCompareSucceeds
  pub copies : FineCopySucceeds
  pub syncs : FineSyncSucceeds
  pub dups : FineDupSucceeds
  pub removes : FineRemoveSucceeds
  pub tests : FineTestSucceeds

-- what stops for want of memory alone ends in time
in_time : (asked : Asked) (now : ℕ) (before after : Side) → Succeeds (Reports asked now before after) (Stops asked before after) →
    RunSucceeds asked now before after
in_time asked now before after s = record { names_nothing = s.names_nothing; ends_in_time = λ why by. inl (s.stops_for_memory why by) }

pub succeeds : Rooms → FineRunsSucceed
succeeds rooms (list asked) now before after within fine = in_time (list asked) now before after (rooms.lists asked now before after within fine)
succeeds rooms (stage asked) now before after within fine =
    let s = rooms.stages asked before after within fine in record { names_nothing = s.names_nothing; ends_in_time = s.stops_in_time }
succeeds rooms (compare asked) now before after within fine = in_time (compare asked) now before after (rooms.compares asked before after within fine)
succeeds rooms (copy asked) now before after within fine = in_time (copy asked) now before after (rooms.copies asked before after within fine)
succeeds rooms (sync asked) now before after within fine = in_time (sync asked) now before after (rooms.syncs asked before after within fine)
succeeds rooms (dup asked) now before after within fine = in_time (dup asked) now before after (rooms.dups asked before after within fine)
succeeds rooms (remove asked) now before after within fine = in_time (remove asked) now before after (rooms.removes asked now before after within fine)
succeeds rooms (test asked) now before after within fine =
    let s = rooms.tests asked now within fine in
    record { names_nothing = s.names_nothing; ends_in_time = λ why by. inl (s.stops_for_memory why by) }
