-- Plain sums tell of each rank the facts that its seat shows.
use Rattle.std.specs.Prelude.{Some}
use Rattle.sum_tree.specs.Told.{SumTold}
use Rattle.sum_tree.specs.Shown.{SumShown, Agrees}
use Rattle.sum_tree.specs.Plain.{IsSeat}

pub agreed : (t : SumTold) (s : SumShown) → IsSeat t s → Agrees (Some t) s
agreed t s seat = seat.shown
