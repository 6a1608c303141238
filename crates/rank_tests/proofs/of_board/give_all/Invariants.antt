use Rattle.rank_tests.proofs.Prelude.{◌≡◌, true, Live, IsSeat, shown_by}
use Rattle.rank_tests.proofs.of_board.give_all.Given as goal

abbrev pub invariant-loop : goal.invariant-loop
invariant-loop l = record { seat : IsSeat l.post l.zero; live : Live (shown_by l.zero); works : (shown_by l.zero).busy ≡ true }
