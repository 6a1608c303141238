use Rattle.post_board.proofs.Prelude.{◌≡◌, ℕ, ◌∙◌, refl, sym, ap, [], length, get_or, replicate, map, false, sum_by, None, length-replicate, serves, one_if}
use Rattle.post_board.proofs.Prelude.{Known}
use Rattle.post_board.proofs.SeatSteps.{never}
use Rattle.post_board.proofs.CallLemmas.{serves_none}
use Rattle.post_board.proofs.boards.BoardSeat.fresh.Goals as goal

pub returns-clause-seat : goal.returns-clause-seat
returns-clause-seat c =
    let own = c.requires.view.1 in
    let n : ℕ = c.args.board.now.n in
    let items : c.in_ok-held.held.items ≡ [] = c.in_ok-held.ensures.items in
    record {
      table = c.requires.table;
      number = ap (λ (v : Known). v.number) own;
      sized = ap (λ (v : Known). v.n) own;
      n = refl;
      inside = c.requires.inside;
      live = c.requires.view.2;
      alone = c.requires.view.3;
      wide = ap (λ (v : Known). length v.serves) own ∙ length-replicate n false;
      colour = ap (λ (v : Known). v.colour) own;
      here = ap (λ (v : Known). v.here) own;
      own = ap (λ (v : Known). v.own) own;
      ended = ap (λ (v : Known). v.ended) own;
      room = c.in_ok-held.ensures.capacity;
      count = ap length items ∙ sym (ap (λ (v : Known). sum_by one_if v.serves) own ∙ serves_none (replicate n false) (never n));
      held = c.requires.view.0 ∙ ap (map (λ r. (r, None))) (sym items);
      holds = λ r e. absurd (let no : serves c.args.seat.me.0.own r ≡ false = ap (λ (v : Known). get_or v.serves r false) own ∙ never n r in cc);
    }
