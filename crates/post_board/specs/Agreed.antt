-- A plain board tells of a seat's rank the facts that the seat shows: the law of the trait, for plain boards. Our own.
use Rattle.std.specs.Prelude.{◌≡◌, ◌<◌, ℕ, Some}
use Rattle.std.proofs.Common.{sym, subst, ap, ◌∙◌}
use Rattle.std.proofs.lemmas.List.{length-map}
use Rattle.std.proofs.Math.ListN.{get_or-map}
use Rattle.post_board.specs.Told.{Place, place}
use Rattle.post_board.specs.Calls.{AgreesIfTold}
use Rattle.post_board.specs.Plain.{place_of, told_by, no_rank, plain, shown_by, Seats}
use Rattle.post_board.specs.declared.plain_seats.PlainSeat.{PlainSeat}
use Rattle.post_board.specs.declared.plain_boards.PlainBoard.{PlainBoard}

pub agreed : (b : PlainBoard) (s : PlainSeat) → Seats b s → AgreesIfTold (Some (told_by b)) (shown_by s)
agreed b s seats =
    let seat = seats.0 in
    let same : place (told_by b) s.number ≡ place_of (plain b.ranks.items s.number) = get_or-map place_of b.ranks.items s.number no_rank in
    record {
      ranks = length-map b.ranks.items place_of ∙ sym seat.0.sized;
      within = subst (λ (n : ℕ). s.number < n) (sym (length-map b.ranks.items place_of)) seat.0.inside;
      busy = ap (λ (x : Place). x.busy) same ∙ seat.0.matches.0;
      colour = ap (λ (x : Place). x.colour) same ∙ seat.0.matches.1;
      tried = ap (λ (x : Place). x.tried) same ∙ seat.0.matches.2;
      ended = ap (λ (x : Place). x.ended) same ∙ seat.0.matches.3;
      stopped = seats.2.own;
    }
