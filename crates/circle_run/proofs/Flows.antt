-- What a move does to the strings of a rank and of the mailboxes, whatever a string weighs, and what a run of moves does to those of all ranks.
use Rattle.circle_run.proofs.Prelude.{◌≡◌, ℕ, ◌+◌, ◌<◌, ◌≤◌, refl, sym, subst, ap, ◌∙◌, arith, Bool, true, false, cond, List, [], ◌∷◌, ◌++◌, map, length}
use Rattle.circle_run.proofs.Prelude.{length-set, get_or-set_other, append-nil, Option, Some, eq-eqb, ne_eqb, sum_by, flat_map, nil_from_length, sum_by-append}
use Rattle.circle_run.proofs.Prelude.{sum_by_push, dite, ℕ_discrete, White, Strings, Mail, vacant, asked, full, empty, Place, Told, no_place, place, put_place}
use Rattle.circle_run.proofs.Prelude.{Deed, ask, give, refuse, take, take_none, pass, restart, conclude, see_over, Legal, told_after, blackened, Late, withdraw}
use Rattle.circle_run.proofs.Prelude.{halt, stop, LegalLate, told_late, Move, handled, served, did, noted, Side, answer_of, Queues, TellsAll, Does, RankSide}
use Rattle.circle_run.proofs.Prelude.{side, batch_in, handled_in, given_in, taken_in, Options, size_after}
use Rattle.circle_run.specs.Balance as balance
use Rattle.circle_run.proofs.Deeds.{some_is}
use Rattle.circle_run.proofs.Sums.{sum_by-set}

abbrev Weight : Type 0
Weight = List ℕ → ℕ

-- the weight of a mailbox, and of all
abbrev mail : Weight → Place → ℕ
mail w x = sum_by w (batch_in x.mail)

abbrev pub mailed : (List ℕ → ℕ) → Told → ℕ
mailed w t = sum_by (mail w) t.places

abbrev given : Deed → Strings
given (give to batch) = batch
given _ = []

acts : (me : ℕ) (d : Deed) (t : Told) → Legal me d t → me < length t.places
acts me (ask v) t legal = legal.0.0
acts me (give to b) t legal = legal.0.0
acts me (refuse to) t legal = legal.0.0
acts me (take from b) t legal = legal.0.0
acts me (take_none from) t legal = legal.0.0
acts me (pass c) t legal = legal.0.0
acts me restart t legal = legal.0.0
acts me conclude t legal = legal.0.0
acts me see_over t legal = legal.0.0

module _ (w : Weight) where
  put_mail : (t : Told) (r : ℕ) (x : Place) → r < length t.places → mailed w (put_place t r x) + mail w (place t r) ≡ mailed w t + mail w x
  put_mail t r x inside = sum_by-set (mail w) t.places r x no_place (λ past. absurd (omega arith))

  holds : (x : Place) (m : Mail) → x.mail ≡ m → mail w x ≡ sum_by w (batch_in m)
  holds x m e = ap (λ (n : Mail). sum_by w (batch_in n)) e

  deed_mail : (me : ℕ) (d : Deed) (t : Told) → Legal me d t → mailed w (told_after me d t) + sum_by w (taken_in (did d)) ≡ mailed w t + sum_by w (given d)
  deed_mail me (ask v) t (acts, other, was) =
      omega (arith, put_mail t me (record (place t me) { busy = false; mail = asked v }) acts.0, holds (place t me) vacant was)
  deed_mail me (give to b) t (acts, other, busy, was) =
      let x : Place = blackened (place t me) me to in
      let mid : Told = put_place t me x in
      let inside : to < length mid.places = (let h = other.0 in simp length-set (omega arith)) in
      let same : place mid to ≡ place t to = get_or-set_other t.places me to x no_place (λ e. other.1 (sym e)) in
      omega (
        arith,
        put_mail t me x acts.0,
        put_mail mid to (record (place t to) { mail = full me b }) inside,
        holds (place mid to) (asked me) (ap (λ (p : Place). p.mail) same ∙ was),
      )
  deed_mail me (refuse to) t (acts, other, was) =
      omega (arith, put_mail t to (record (place t to) { mail = empty me }) other.0, holds (place t to) (asked me) was)
  deed_mail me (take from b) t (acts, other, was) =
      omega (arith, put_mail t me (record (place t me) { busy = true; tried = false; mail = vacant }) acts.0, holds (place t me) (full from b) was)
  deed_mail me (take_none from) t (acts, other, was) =
      omega (arith, put_mail t me (record (place t me) { tried = true; mail = vacant }) acts.0, holds (place t me) (empty from) was)
  deed_mail me (pass c) t (acts, above, idle, was, held, tried) = omega (arith, put_mail t me (record (place t me) { colour = White }) acts.0)
  deed_mail me restart t (acts, first, free, was, held) = omega (arith, put_mail t me (record (place t me) { busy = false; colour = White }) acts.0)
  deed_mail me conclude t (acts, first, idle, was, here, white, tried) = omega (arith, put_mail t me (record (place t me) { ended = true }) acts.0)
  deed_mail me see_over t (acts, over) = omega (arith, put_mail t me (record (place t me) { ended = true }) acts.0)

  late_mail : (me : ℕ) (late : Late) (t : Told) → LegalLate me late t → mailed w (told_late me late t) ≡ mailed w t
  late_mail me (withdraw from) t (acts, other, was, gone, ended) =
      omega (arith, put_mail t me (record (place t me) { tried = true; mail = vacant }) acts.0, holds (place t me) (asked from) was)
  late_mail me halt t legal = refl
  late_mail me stop t legal = refl

  answer_mail : (me : ℕ) (x : ℕ × Strings) (t : Told) → Legal me (answer_of x) t → mailed w (told_after me (answer_of x) t) ≡ mailed w t + sum_by w x.1
  answer_mail me x t = dite (ℕ_discrete (length x.1) 0)
      (λ e. subst (λ (d : Deed). Legal me d t → mailed w (told_after me d t) ≡ mailed w t + sum_by w x.1)
      (sym (ap (λ (b : Bool). cond b (refuse x.0) (give x.0 x.1)) (eq-eqb (length x.1) 0 e)))
      (λ legal. omega (arith, deed_mail me (refuse x.0) t legal, ap (sum_by w) (nil_from_length x.1 e))))
      (λ ne. subst (λ (d : Deed). Legal me d t → mailed w (told_after me d t) ≡ mailed w t + sum_by w x.1)
      (sym (ap (λ (b : Bool). cond b (refuse x.0) (give x.0 x.1)) (ne_eqb (length x.1) 0 ne)))
      (λ legal. omega (arith, deed_mail me (give x.0 x.1) t legal)))

late_acts : (me : ℕ) (late : Late) (t : Told) → LegalLate me late t → me < length t.places
late_acts me (withdraw from) t legal = legal.0.0
late_acts me halt t legal = legal.0
late_acts me stop t legal = legal.0.0

late_as_many : (me : ℕ) (late : Late) (t : Told) → length (told_late me late t).places ≡ length t.places
late_as_many me (withdraw from) t = simp length-set
late_as_many me halt t = refl
late_as_many me stop t = refl

-- all answers of a service
record Answered (answers : List (ℕ × Strings)) (t u : Told) : Type 0 where
  mail : (w : Weight) → mailed w u ≡ mailed w t + sum_by w (flat_map (λ (x : ℕ × Strings). x.1) answers)
  places : length u.places ≡ length t.places

answered : (answers : List (ℕ × Strings)) (me : ℕ) (t u : Told) → TellsAll me (map answer_of answers) (Some t) (Some u) → Answered answers t u
answered [] me t u told = let e : u ≡ t = some_is u t told in record {
  mail = λ w. omega (arith, ap (mailed w) e);
  places = ap (λ (v : Told). length v.places) e;
}
answered (x ∷ xs) me t u (mid, (legal, same), told) =
    let next : Told = told_after me (answer_of x) t in
    let rest : Answered xs next u = answered xs me next u (subst (λ (m : Option Told). TellsAll me (map answer_of xs) m (Some u)) same told) in
    record {
      mail = λ w. omega (arith, rest.mail w, answer_mail w me x t legal, sum_by-append w x.1 (flat_map (λ (x : ℕ × Strings). x.1) xs));
      places = rest.places ∙ size_after me (answer_of x) t;
    }

-- what a move leaves, where the side was x and t was told, and the side is y and u is told
pub record Moved (me : ℕ) (m : Move) (x y : RankSide) (t u : Told) : Type 0 where
  pub log : y.log ≡ x.log ++ handled_in m
  pub queue : (w : List ℕ → ℕ)
      → (sum_by w y.queue + sum_by w (given_in m)) + balance.handled w (handled_in m)
      ≡ (sum_by w x.queue + sum_by w (taken_in m)) + balance.pushed w (handled_in m)
  pub mail : (w : List ℕ → ℕ) → mailed w u + sum_by w (taken_in m) ≡ mailed w t + sum_by w (given_in m)
  pub places : length u.places ≡ length t.places
  -- who is none of the ranks serves nobody, which changes nothing
  pub outside : length t.places ≤ me → m ≡ served []

deed_queue : (w : Weight) (d : Deed) (q q' : Strings) → Queues d q q' → sum_by w q' ≡ sum_by w q + sum_by w (taken_in (did d))
deed_queue w (ask v) q q' queue = omega (arith, ap (sum_by w) queue.0, ap (sum_by w) queue.1)
deed_queue w (give to b) q q' queue = absurd queue
deed_queue w (refuse to) q q' queue = absurd queue
deed_queue w (take from b) q q' queue = ap (sum_by w) queue ∙ sum_by-append w q b
deed_queue w (take_none from) q q' queue = omega (arith, ap (sum_by w) queue)
deed_queue w (pass c) q q' queue = omega (arith, ap (sum_by w) queue.0, ap (sum_by w) queue.1)
deed_queue w restart q q' queue = omega (arith, ap (sum_by w) queue.0, ap (sum_by w) queue.1)
deed_queue w conclude q q' queue = omega (arith, ap (sum_by w) queue.0, ap (sum_by w) queue.1)
deed_queue w see_over q q' queue = omega (arith, ap (sum_by w) queue.0, ap (sum_by w) queue.1)

nothing_given : (d : Deed) (q q' : Strings) → Queues d q q' → given d ≡ []
nothing_given (ask v) q q' queue = refl
nothing_given (give to b) q q' queue = absurd queue
nothing_given (refuse to) q q' queue = refl
nothing_given (take from b) q q' queue = refl
nothing_given (take_none from) q q' queue = refl
nothing_given (pass c) q q' queue = refl
nothing_given restart q q' queue = refl
nothing_given conclude q q' queue = refl
nothing_given see_over q q' queue = refl

serves_nobody : (answers : List (ℕ × Strings)) (me : ℕ) (t u : Told) → length t.places ≤ me
    → TellsAll me (map answer_of answers) (Some t) (Some u) → served answers ≡ served []
serves_nobody [] me t u past told = refl
serves_nobody (x ∷ xs) me t u past (mid, (legal, same), told) = let h : me < length t.places = acts me (answer_of x) t legal in absurd (omega arith)

pub moved : (o : Options) (me : ℕ) (m : Move) (x y : RankSide) (t u : Told) → Does o me m (side x t) (side y u) → Moved me m x y t u
moved o me (handled path kids) x y t u does =
    let same : u ≡ t = some_is u t (ap (λ (s : Side). s.told) does.after) in
    let queue : y.queue ≡ does.rest ++ kids = ap (λ (s : Side). s.queue) does.after in
    record {
      log = ap (λ (s : Side). s.log) does.after;
      queue = λ w. omega (arith, ap (sum_by w) queue, ap (sum_by w) does.newest, sum_by-append w does.rest kids, sum_by_push w does.rest path);
      mail = λ w. omega (arith, ap (mailed w) same);
      places = ap (λ (v : Told). length v.places) same;
      outside = λ past. (let h : me < length t.places = does.live.0 in absurd (omega arith));
    }
moved o me (served answers) x y t u does =
    let all : Answered answers t u = answered answers me t u does.told in
    record {
      log = does.log ∙ sym (append-nil x.log);
      queue = λ w. omega (arith, ap (sum_by w) does.oldest, sum_by-append w (flat_map (λ (x : ℕ × Strings). x.1) answers) y.queue);
      mail = λ w. omega (arith, all.mail w);
      places = all.places;
      outside = λ past. serves_nobody answers me t u past does.told;
    }
moved o me (did d) x y t u does =
    let legal : Legal me d t = does.told.0 in
    let same : u ≡ told_after me d t = some_is u (told_after me d t) does.told.1 in
    record {
      log = does.log ∙ sym (append-nil x.log);
      queue = λ w. omega (arith, deed_queue w d x.queue y.queue does.queue);
      mail = λ w. omega (arith, ap (mailed w) same, deed_mail w me d t legal, ap (sum_by w) (nothing_given d x.queue y.queue does.queue));
      places = ap (λ (v : Told). length v.places) same ∙ size_after me d t;
      outside = λ past. (let h : me < length t.places = acts me d t legal in absurd (omega arith));
    }
moved o me (noted late) x y t u does =
    let legal : LegalLate me late t = does.told.0 in
    let same : u ≡ told_late me late t = some_is u (told_late me late t) does.told.1 in
    let queue : y.queue ≡ x.queue = ap (λ (s : Side). s.queue) does.after in
    record {
      log = ap (λ (s : Side). s.log) does.after ∙ sym (append-nil x.log);
      queue = λ w. omega (arith, ap (sum_by w) queue);
      mail = λ w. omega (arith, ap (mailed w) same, late_mail w me late t legal);
      places = ap (λ (v : Told). length v.places) same ∙ late_as_many me late t;
      outside = λ past. (let h : me < length t.places = late_acts me late t legal in absurd (omega arith));
    }
