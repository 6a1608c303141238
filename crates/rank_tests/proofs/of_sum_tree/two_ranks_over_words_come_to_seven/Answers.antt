use Rattle.rank_tests.proofs.Prelude.{◌≡◌, fresh}
use Rattle.sum_tree.specs.TreeSeats.{shown_by, IsSeat}
use Rattle.rank_tests.proofs.Pairs.{both_are}
use Rattle.rank_tests.proofs.of_sum_tree.two_ranks_over_words_come_to_seven.Goals as goal

pub three_and_four-requires-clause-seats : goal.three_and_four-requires-clause-seats
three_and_four-requires-clause-seats g c =
    let both = both_are (λ k s. IsSeat c.in_ok-tree.tree s
    × (shown_by s ≡ fresh 2 2 k)) c.in_ok-tree.seats.items c.two_of.result c.in_ok-zero.zero c.in_ok-zero.one
    c.in_ok-tree.ensures.seats.each c.two_of.ensures c.in_ok-zero.ensures.ok_part in
    (both.0.0, both.1.0)

pub three_and_four-requires-clause-zero : goal.three_and_four-requires-clause-zero
three_and_four-requires-clause-zero g c =
    (both_are (λ k s. IsSeat c.in_ok-tree.tree s × (shown_by s ≡ fresh 2 2 k)) c.in_ok-tree.seats.items c.two_of.result c.in_ok-zero.zero c.in_ok-zero.one
    c.in_ok-tree.ensures.seats.each c.two_of.ensures c.in_ok-zero.ensures.ok_part).0.1

pub three_and_four-requires-clause-one : goal.three_and_four-requires-clause-one
three_and_four-requires-clause-one g c =
    (both_are (λ k s. IsSeat c.in_ok-tree.tree s × (shown_by s ≡ fresh 2 2 k)) c.in_ok-tree.seats.items c.two_of.result c.in_ok-zero.zero c.in_ok-zero.one
    c.in_ok-tree.ensures.seats.each c.two_of.ensures c.in_ok-zero.ensures.ok_part).1.1
