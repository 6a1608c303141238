use Rattle.post_board.proofs.Prelude.{◌≡◌, ◌+◌, ◌∙◌, refl, sym, ap, false, [], ◌∷◌, ◌++◌, Is, Step, serving, emptied, word_of, SeatState, set, after_refusing}
use Rattle.post_board.proofs.Prelude.{own_by, View}
use Rattle.post_board.proofs.WordLemmas.{sign_of_word}
use Rattle.post_board.proofs.CallLemmas.{reading, one_more}
use Rattle.post_board.proofs.CallLemmas.{answered_one}
use Rattle.post_board.proofs.board_posts.RefBoardPost.refuse.Goals as goal

pub returns-clause-reads : goal.returns-clause-reads
returns-clause-reads c =
    let f = c.refuse_step.ensures.after in
    let v = c.args.seat.now.seat.me.0.own in
    let F = c.front_slot.ensures.fronted in
    let me : c.front_slot.new.seat.number ≡ v.number = F.same.0 ∙ sym c.requires.seat.number in
    one_more v.readings _ (Step (c.args.to + 1) (Is (serving v.number)) (Is (emptied v.number))) (reading (c.args.to + 1) f.0 (word_of (emptied v.number)))
    (refl, f.1 ∙ ap serving me, sign_of_word (emptied v.number))
    (ap (λ (m : SeatState). m.0.own.readings) f.2 ∙ ap (λ (w : View). w.own.readings ++ reading (c.args.to + 1) f.0
    (word_of (emptied w.own.number)) ∷ []) F.view)

pub returns-clause-mine : goal.returns-clause-mine
returns-clause-mine c =
    let f = c.refuse_step.ensures.after in
    let F = c.front_slot.ensures.fronted in
    let S = c.requires.seat in
    let u = c.front_slot.new.seat.seat.me.0.own in
    answered_one _ c.args.seat.now c.front_slot.new.seat _ (after_refusing u c.args.to (c.args.to + 1) f.0) c.args.to S c.requires.served record {
      fronted = F;
      table = c.refuse_step.ensures.table;
      view = ap (λ (m : SeatState). m.0) f.2;
      slots = ap (λ (m : SeatState). m.1) f.2;
      number = refl;
      size = refl;
      held = refl;
      same_number = ap (λ (x : View). x.own.number) F.view;
      same_size = ap (λ (x : View). x.own.n) F.view;
      serves_less = ap (λ (x : View). set x.own.serves c.args.to false) F.view;
      colour = ap (λ (x : View). x.own.colour) F.view ∙ S.colour ∙ sym F.same.2;
      here = ap (λ (x : View). x.own.here) F.view ∙ S.here ∙ sym F.same.3;
      own = ap (λ (x : View). x.own.own) F.view ∙ S.own ∙ ap own_by (sym F.same.4);
      ended = ap (λ (x : View). x.own.ended) F.view ∙ S.ended ∙ sym F.same.5;
    }
