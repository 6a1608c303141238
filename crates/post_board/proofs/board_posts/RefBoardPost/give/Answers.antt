use Rattle.post_board.proofs.Prelude.{◌≡◌, ℕ, ◌+◌, ◌∙◌, refl, sym, ap, false, set, cond, nat_lt, [], ◌∷◌, ◌++◌, rest, Colour, Black, Is, Step, serving, full}
use Rattle.post_board.proofs.Prelude.{word_of, SeatState, knows, after_post, front, own_by, View, Known}
use Rattle.post_board.proofs.WordLemmas.{sign_of_word}
use Rattle.post_board.proofs.CallLemmas.{reading, one_more, answered_one}
use Rattle.post_board.proofs.board_posts.RefBoardPost.give.Goals as goal

pub returns-clause-reads : goal.returns-clause-reads
returns-clause-reads c =
    let f = c.post_step.ensures.after in
    let v = c.args.seat.now.seat.me.0.own in
    let F = c.front_slot.ensures.fronted in
    let same : c.fill_slot.new.seat.me.0 ≡ c.args.seat.now.seat.me.0 = ap (λ (m : SeatState). m.0) c.fill_slot.ensures.filled ∙ F.view in
    let me : c.front_slot.new.seat.number ≡ v.number = F.same.0 ∙ sym c.requires.seat.number in
    one_more v.readings _ (Step (c.args.to + 1) (Is (serving v.number)) (Is (full v.number))) (reading (c.args.to + 1) f.0 (word_of (full v.number)))
    (refl, f.1 ∙ ap serving me, sign_of_word (full v.number))
    (ap (λ (m : SeatState). m.0.own.readings) f.2 ∙ ap (λ (w : View). w.own.readings ++ reading (c.args.to + 1) f.0 (word_of (full w.own.number)) ∷ []) same)

pub returns-clause-mine : goal.returns-clause-mine
returns-clause-mine c =
    let f = c.post_step.ensures.after in
    let F = c.front_slot.ensures.fronted in
    let S = c.requires.seat in
    let fill = c.fill_slot.ensures.filled in
    let same : c.fill_slot.new.seat.me.0 ≡ c.args.seat.now.seat.me.0 = ap (λ (m : SeatState). m.0) fill ∙ F.view in
    let u = c.fill_slot.new.seat.me.0.own in
    let k : Known = after_post u c.args.to (c.args.to + 1) f.0 (front c.fill_slot.new.seat.me.1) in
    let as_number : u.number ≡ c.front_slot.new.seat.number = ap (λ (x : View). x.own.number) same ∙ S.number ∙ sym F.same.0 in
    let as_colour : u.colour ≡ c.front_slot.new.seat.colour = ap (λ (x : View). x.own.colour) same ∙ S.colour ∙ sym F.same.2 in
    answered_one _ c.args.seat.now c.front_slot.new.seat _ k c.args.to S c.requires.served record {
      fronted = F;
      table = c.post_step.ensures.table ∙ c.fill_slot.ensures.table;
      view = ap (λ (m : SeatState). m.0) f.2 ∙ ap (λ (x : View). knows x k) (ap (λ (m : SeatState). m.0) fill);
      slots = ap (λ (m : SeatState). m.1) f.2 ∙ ap (λ (m : SeatState). rest m.1) fill;
      number = refl;
      size = refl;
      held = refl;
      same_number = ap (λ (x : View). x.own.number) same;
      same_size = ap (λ (x : View). x.own.n) same;
      serves_less = ap (λ (x : View). set x.own.serves c.args.to false) same;
      colour = ap (λ (j : ℕ). cond (nat_lt j c.args.to) Black u.colour) as_number
          ∙ ap (λ (x : Colour). cond (nat_lt c.front_slot.new.seat.number c.args.to) Black x) as_colour ∙ sym c.shaded-seat.ensures;
      here = ap (λ (x : View). x.own.here) same ∙ S.here ∙ sym F.same.3;
      own = ap (λ (x : View). x.own.own) same ∙ S.own ∙ ap own_by (sym F.same.4);
      ended = ap (λ (x : View). x.own.ended) same ∙ S.ended ∙ sym F.same.5;
    }
