use Rattle.rank_threads.proofs.Prelude.{IsSeat, shown_by, Live}
use Rattle.rank_threads.proofs.looking.found_none.Given as goal

abbrev pub invariant-loop : goal.invariant-loop
invariant-loop l = record { seat : IsSeat l.post l.seat; live : Live (shown_by l.seat) }
