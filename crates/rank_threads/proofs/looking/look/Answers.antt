use Rattle.rank_threads.proofs.Prelude.{◌≡◌, ◌-◌, ℕ, Some, ap, refl, arith, fresh, Shown, IsSeat, shown_by, unused, BoardSeat}
use Rattle.rank_threads.proofs.Firsts.{starts, last_of}
use Rattle.rank_threads.proofs.looking.look.Goals as goal

pub found_none-requires : goal.found_none-requires
found_none-requires c =
    let Is : ℕ → BoardSeat → Type 0 = λ k s. IsSeat c.in_ok-board.board s × (shown_by s ≡ fresh c.args.ranks k (Some (unused c.args.ranks))) in
    let all = starts Is c.args.ranks c.args.ranks c.in_ok-board.seats.items refl c.in_ok-board.ensures.seats.count c.in_ok-board.ensures.seats.each in
    let some = c.requires.0 in
    let at = last_of Is c.args.ranks (c.args.ranks - 1) _ _ _ all (omega arith) c.in-Some.ensures.items in
    (at.0, (ap (λ (x : Shown). x.ended) at.1, ap (λ (x : Shown). x.stopped) at.1))
