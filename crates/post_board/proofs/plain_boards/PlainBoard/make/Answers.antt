use Rattle.post_board.proofs.Prelude.{None, Bool, false, ◌≡◌, ℕ, List, replicate, get_or, sym, subst, ap, ◌∙◌, arith, Black, At, fresh_rank, told_of, worded}
use Rattle.post_board.proofs.Prelude.{HaltFits, IsSeat, Noted, PlainRank}
use Rattle.post_board.proofs.PlainStart.{told_at_first, seat_at_first, halts_at_first}
use Rattle.post_board.proofs.AskerLemmas.{noted_at_first}
use Rattle.post_board.proofs.plain_boards.PlainBoard.make.Goals as goal

pub returns-clause-told : goal.returns-clause-told
returns-clause-told c =
    let all : c.loop-number.number ≡ c.args.n = omega arith in
    ap (λ (ranks : List PlainRank). worded None c.in_ok-stops.stops.items (told_of ranks (At 0 Black)))
    (c.loop-number.invariant.ranks ∙ ap (λ (k : ℕ). replicate k fresh_rank) all)
    ∙ ap (λ (xs : List Bool). worded None xs (told_of (replicate c.args.n fresh_rank) (At 0 Black))) c.in_ok-stops.ensures
    ∙ ap (worded None (replicate c.args.n false)) (told_at_first c.args.n)

pub returns-clause-seats : goal.returns-clause-seats
returns-clause-seats c =
    let all : c.loop-number.number ≡ c.args.n = omega arith in
    let ranks : c.loop-number.ranks.items ≡ replicate c.args.n fresh_rank = c.loop-number.invariant.ranks ∙ ap (λ (k : ℕ). replicate k fresh_rank) all in
    let noted : Noted c.loop-number.ranks.items c.in_ok-askers.askers.masks.items =
    subst (λ (ms : List ℕ). Noted c.loop-number.ranks.items ms) (sym c.in_ok-askers.ensures)
    (subst (λ (rs : List PlainRank). Noted rs (replicate c.args.n 0)) (sym ranks) (noted_at_first c.args.n c.requires.at_most_64)) in
    record {
      count = c.loop-number.invariant.count ∙ all;
      each = λ k d below.
          let shown = c.loop-number.invariant.each k d (omega arith) in
          let seat = get_or c.loop-number.seats.items k d in
          let mine = subst (λ (rs : List PlainRank). IsSeat rs (At 0 Black) seat) (sym ranks) (seat_at_first c.args.n k seat below shown) in
          let halts = subst (λ (rs : List PlainRank). HaltFits None c.in_ok-stops.stops.items rs seat) (sym ranks)
          (halts_at_first c.args.n k seat c.in_ok-stops.stops.items c.in_ok-stops.ensures below shown) in
          ((mine, noted, halts), shown);
    }
