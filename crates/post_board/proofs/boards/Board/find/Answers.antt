use Rattle.post_board.proofs.Prelude.{◌≡◌, ◌≢◌, ◌∙◌, ◌+◌, ◌*◌, ◌⊎◌, ⊎_elim, sym, ap, arith, true, false, asking, serving, emptied, sign, has_bit, SeatState}
use Rattle.post_board.proofs.Prelude.{knowing, after_rest, stop_seen, Open}
use Rattle.post_board.proofs.WordLemmas.{sign_of_word}
use Rattle.post_board.proofs.CallLemmas.{pending, full_word, learn_none}
use Rattle.post_board.proofs.FindLemmas.{stops_open, finds_after, finds_full, finds_refused}
use Rattle.post_board.proofs.boards.Board.find.Goals as goal

pub look_step-found-requires-clause-open : goal.look_step-found-requires-clause-open
look_step-found-requires-clause-open c = (
  c.args.victim,
  ap (λ (m : SeatState). m.0.own.own) c.stops_step-stops.ensures.after ∙ stops_open c.args.seat.now.me.0.own.own c.stops_step-stops.result c.args.victim
      c.requires.open (sym c.has_bit.ensures ∙ c.if-has_bit.false),
)

pub returns-then-found-asks-clause-finds : goal.returns-then-found-asks-clause-finds
returns-then-found-asks-clause-finds c =
    let s = c.stops_step-stops.result in
    let w = c.withdraw_step-found.result in
    record {
      stops = s;
      word = w;
      replied = (sym c.has_bit.ensures ∙ c.if-has_bit.true, ap sign c.if-found-asks.true ∙ sign_of_word (asking c.args.victim));
      after = c.withdraw_step-found.ensures.hit c.if-found-asks.true
          ∙ ap (λ (x : SeatState). knowing x (after_rest x.0.own (c.args.me + 1) w true)) c.stops_step-stops.ensures.after;
    }

pub returns-then-found-asks-2-clause-finds : goal.returns-then-found-asks-2-clause-finds
returns-then-found-asks-2-clause-finds c =
    finds_full c.args.self.now.n c.args.me c.stops_step-stops.result c.withdraw_step-found.result c.args.seat.now.me
    c.stops_step-stops.new.seat.me c.withdraw_step-found.new.seat.me c.stops_step-stops.ensures.after
    (c.withdraw_step-found.ensures.miss c.if-found-asks.false).1
    (let e = c.if-found-asks-2.true in omega arith)

pub returns-else-found-asks-2-clause-finds : goal.returns-else-found-asks-2-clause-finds
returns-else-found-asks-2-clause-finds c =
    let w = c.withdraw_step-found.result in
    let v = c.args.victim in
    let not_full : w ≢ 8 * v + 3 = (λ e. c.if-found-asks-2.false (let f = e in omega arith)) in
    let missed = c.withdraw_step-found.ensures.miss c.if-found-asks.false in
    let refused : sign w ≡ emptied v = ⊎_elim (λ e. absurd (not_full (full_word w v e))) (λ e. e) missed.0 in
    finds_refused c.args.self.now.n c.args.me c.stops_step-stops.result c.withdraw_step-found.result c.args.seat.now.me
    c.stops_step-stops.new.seat.me c.withdraw_step-found.new.seat.me c.stops_step-stops.ensures.after
    missed.1 refused

pub returns-then-found-asks-3-clause-finds : goal.returns-then-found-asks-3-clause-finds
returns-then-found-asks-3-clause-finds c =
    finds_full c.args.self.now.n c.args.me c.stops_step-stops.result c.look_step-found.result c.args.seat.now.me
    c.stops_step-stops.new.seat.me c.look_step-found.new.seat.me c.stops_step-stops.ensures.after
    c.look_step-found.ensures.after (let e = c.if-found-asks-3.true in omega arith)

pub returns-then-found-asks-4-clause-finds : goal.returns-then-found-asks-4-clause-finds
returns-then-found-asks-4-clause-finds c =
    let is : c.look_step-found.result ≡ 8 * c.args.victim + 5 = (let e = c.if-found-asks-4.true in omega arith) in
    finds_refused c.args.self.now.n c.args.me c.stops_step-stops.result c.look_step-found.result c.args.seat.now.me
    c.stops_step-stops.new.seat.me c.look_step-found.new.seat.me c.stops_step-stops.ensures.after
    c.look_step-found.ensures.after (ap sign is ∙ sign_of_word (emptied c.args.victim))

pub returns-else-found-asks-4-clause-finds : goal.returns-else-found-asks-4-clause-finds
returns-else-found-asks-4-clause-finds c =
    let s = c.stops_step-stops.result in
    let w = c.look_step-found.result in
    let v = c.args.victim in
    let own = c.args.seat.now.me.0.own.own in
    let stays : has_bit s v ≡ false = sym c.has_bit.ensures ∙ c.if-has_bit.false in
    let still : stop_seen own s ≡ Open v = stops_open own s v c.requires.open stays in
    let first = c.stops_step-stops.ensures.after in
    let waits : (sign w ≡ asking v) ⊎ (sign w ≡ serving v) =
    pending c.stops_step-stops.new.seat.me.0.own.own w v (ap (λ (m : SeatState). m.0.own.own) first ∙ still) c.look_step-found.ensures.fits
    (λ e. c.if-found-asks-3.false (let f = e in omega arith)) (λ e. c.if-found-asks-4.false (let f = e in omega arith)) in
    record {
      stops = s;
      word = w;
      replied = (stays, waits);
      after = finds_after c.args.self.now.n c.args.me s w c.args.seat.now.me c.stops_step-stops.new.seat.me
          c.look_step-found.new.seat.me first c.look_step-found.ensures.after own (learn_none (stop_seen own s) (sign w) v waits ∙ still ∙ sym c.requires.open);
    }
