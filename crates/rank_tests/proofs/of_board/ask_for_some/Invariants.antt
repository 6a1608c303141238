use Rattle.rank_tests.proofs.Prelude.{◌≡◌, true, Live, is_open, IsSeat, shown_by}
use Rattle.rank_tests.proofs.of_board.ask_for_some.Given as goal

abbrev pub invariant-loop : goal.invariant-loop
invariant-loop l = record { seat : IsSeat l.post l.one; live : Live (shown_by l.one); waits : is_open (shown_by l.one) ≡ true }
