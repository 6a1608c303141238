use Rattle.post_board.proofs.Prelude.{◌≡◌, ◌+◌, ◌∙◌, inl, inr, refl, sym, ap, true, [], ◌∷◌, ◌++◌, Is, Step, Read, AnswerSteps, victim_of, resting, asking}
use Rattle.post_board.proofs.Prelude.{full, fetching, emptied, word_of, has_bit, SeatState, shown_known, Nothing}
use Rattle.post_board.proofs.WordLemmas.{sign_of_word}
use Rattle.post_board.proofs.CallLemmas.{reading, two_more, three_more}
use Rattle.post_board.proofs.FindLemmas.{four_more, adds_as, finds_as, open_at}
use Rattle.post_board.proofs.board_posts.RefBoardPost.answer.Goals as goal

pub fetch-batch-requires-clause-full : goal.fetch-batch-requires-clause-full
fetch-batch-requires-clause-full c =
    let F = finds_as c.in-Full.is c.find.ensures.finds in
    ap (λ (m : SeatState). m.0.own.own) F.after

pub empty_step-requires-clause-empty : goal.empty_step-requires-clause-empty
empty_step-requires-clause-empty c =
    let F = finds_as c.in-Refused.is c.find.ensures.finds in
    ap (λ (m : SeatState). m.0.own.own) F.after

pub returns-in-Full-clause-reads : goal.returns-in-Full-clause-reads
returns-in-Full-clause-reads c =
    let v = c.args.seat.now.seat.me.0.own in
    let F = finds_as c.in-Full.is c.find.ensures.finds in
    let O = open_at c.args.self.now.now c.args.seat.now c.in-Some.victim c.requires.seat c.in-Some.is in
    let f = c.fetch-batch.ensures.after in
    four_more v.readings _ (Read (v.n + 2) (λ w. Unit {0})) (Read (v.number + 1) (Is (full (victim_of (shown_known v)))))
    (Step (v.number + 1) (Is (full (victim_of (shown_known v)))) (Is (fetching (victim_of (shown_known v)))))
    (Step (v.number + 1) (Is (fetching (victim_of (shown_known v)))) (Is resting))
    (reading (c.args.self.now.now.n + 2) F.stops F.stops) (reading (c.args.seat.now.number + 1) F.word F.word)
    (reading (c.args.seat.now.number + 1) f.0 (word_of (fetching c.in-Some.victim))) (reading (c.args.seat.now.number + 1) f.1 (word_of resting))
    (O.stops, tt, refl)
    (O.place, F.replied ∙ ap full O.whom, refl)
    (O.place, f.2 ∙ ap full O.whom, sign_of_word (fetching c.in-Some.victim) ∙ ap fetching O.whom)
    (O.place, f.3 ∙ ap fetching O.whom, sign_of_word resting)
    (ap (λ (m : SeatState). m.0.own.readings) f.4 ∙ ap (λ (m : SeatState).
    (m.0.own.readings ++ reading (c.args.seat.now.number + 1) f.0 (word_of (fetching c.in-Some.victim)) ∷ []) ++ reading
    (c.args.seat.now.number + 1) f.1 (word_of resting) ∷ []) F.after)

pub returns-in-Refused-clause-reads : goal.returns-in-Refused-clause-reads
returns-in-Refused-clause-reads c =
    let v = c.args.seat.now.seat.me.0.own in
    let F = finds_as c.in-Refused.is c.find.ensures.finds in
    let O = open_at c.args.self.now.now c.args.seat.now c.in-Some.victim c.requires.seat c.in-Some.is in
    let f = c.empty_step.ensures.after in
    adds_as v.readings _ _ (AnswerSteps (shown_known v) Nothing) (λ steps p. inl p)
    (three_more v.readings _ (Read (v.n + 2) (λ w. Unit {0})) (Read (v.number + 1) (Is (emptied (victim_of (shown_known v)))))
    (Step (v.number + 1) (Is (emptied (victim_of (shown_known v)))) (Is resting))
    (reading (c.args.self.now.now.n + 2) F.stops F.stops) (reading (c.args.seat.now.number + 1) F.word F.word)
    (reading (c.args.seat.now.number + 1) f.0 (word_of resting))
    (O.stops, tt, refl)
    (O.place, F.replied ∙ ap emptied O.whom, refl)
    (O.place, f.1 ∙ ap emptied O.whom, sign_of_word resting)
    (ap (λ (m : SeatState). m.0.own.readings) f.2 ∙ ap (λ (m : SeatState). m.0.own.readings ++ reading (c.args.seat.now.number + 1) f.0
    (word_of resting) ∷ []) F.after))

pub returns-in-Withdrawn-clause-reads : goal.returns-in-Withdrawn-clause-reads
returns-in-Withdrawn-clause-reads c =
    let v = c.args.seat.now.seat.me.0.own in
    let F = finds_as c.in-Withdrawn.is c.find.ensures.finds in
    let O = open_at c.args.self.now.now c.args.seat.now c.in-Some.victim c.requires.seat c.in-Some.is in
    adds_as v.readings _ _ (AnswerSteps (shown_known v) Nothing) (λ steps p. inr p)
    (two_more v.readings _ (Read (v.n + 2) (λ w. has_bit w (victim_of (shown_known v)) ≡ true))
    (Step (v.number + 1) (Is (asking (victim_of (shown_known v)))) (Is resting))
    (reading (c.args.self.now.now.n + 2) F.stops F.stops) (reading (c.args.seat.now.number + 1) F.word (word_of resting))
    (O.stops, ap (has_bit F.stops) (sym O.whom) ∙ F.replied.0, refl)
    (O.place, F.replied.1 ∙ ap asking O.whom, sign_of_word resting)
    (ap (λ (m : SeatState). m.0.own.readings) F.after))
