use Rattle.rank_tests.proofs.Prelude.{shown_by, IsSeat}
use Rattle.rank_tests.proofs.Pairs.{both_new}
use Rattle.rank_tests.proofs.boards.board_of_words.Goals as goal

pub returns : goal.returns
returns c =
    let both = both_new shown_by (IsSeat c.in_ok-board.board) c.in_ok-board.seats.items c.two_of.result c.in_ok-zero.zero c.in_ok-zero.one
    _ c.in_ok-board.ensures.seats c.two_of.ensures c.in_ok-zero.ensures.ok_part in
    record { seats = (both.0.mine, both.1.mine); zero = both.0.unused; one = both.1.unused }
