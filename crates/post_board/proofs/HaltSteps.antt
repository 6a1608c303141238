-- The steps on the halt word and the stops word, and withdrawing.
use Rattle.post_board.proofs.Prelude.{◌≡◌, ℕ, ◌+◌, ◌^◌, ◌<◌, ◌≢◌, ◌⊎◌, inl, inr, ⊎_elim, refl, sym, subst, ap, ◌∙◌, Bool, true, false, cond, get_or, set}
use Rattle.post_board.proofs.Prelude.{length-set, eqb, ◌==◌, bit_or, Some, eqb-true, either, step, Act, keeps, stepped, Valid, carried_after, Allows, exchanged}
use Rattle.post_board.proofs.Prelude.{none, put, put_here, put_all, has_bit, Sign, resting, asking, serving, full, emptied, sign, word_of, Parcel}
use Rattle.post_board.proofs.Prelude.{TableState, RingFacts, Rule, serves, signs_in, slots_in, token_in, halt_in, stops_in, OwnFits, OpenFits, asked_of, Going}
use Rattle.post_board.proofs.Prelude.{SeatState, noted, knows, after_rest, after_look, learn, SetHaltTells, halt_seen, LoadHaltTells, StopTells, stop_seen}
use Rattle.post_board.proofs.Prelude.{after_stops, LoadStopsTells, WithdrawTells, Known, View, OwnMailbox, Resting, Open, Left}
use Rattle.post_board.proofs.Prelude.{put_same}
use Rattle.post_board.proofs.BitLemmas.{bit_set, bit_else}
use Rattle.post_board.proofs.WordLemmas.{sign_of_word}
use Rattle.post_board.proofs.FactLemmas.{unmoved}
use Rattle.post_board.proofs.MailboxLemmas.{one_word, slot_under, learns, learns_away}
use Rattle.post_board.proofs.RingLemmas.{calm_all, withdraws}
use Rattle.post_board.proofs.HaltLemmas.{IsGone, halt_moved}
use Rattle.post_board.proofs.Frames.{frame, mail_stays, ring_stays, at_halt, at_stops, reads}
use Rattle.post_board.proofs.GoingSteps.{at_own, same_halt, own_rests}

pub allows_set_halt : (n slots id : ℕ) (m : SeatState) → Going m → Allows (Rule n) slots id m (n + 1) (λ _. 1)
    (SetHaltTells (step slots (n + 1) 1 0 none) m)
allows_set_halt n slots id m G s o wide here small =
    let was = o.seated id m.0 here G.live in
    let r : ℕ = get_or s.words (n + 1) 0 in
    let W : Known → Known = λ v. record (noted v (n + 1) r 1) { halted = true } in
    let k : Known = o.known id in
    let unstopped : k.stopped ≡ false = ap (λ (v : Known). v.stopped) was.1 ∙ G.goes in (
      knows m.0 (W m.0.own),
      keeps,
      tt,
      frame n s o id m.0 W (set s.words (n + 1) 1) s.homes here G.live (length-set s.words (n + 1) 1) refl
          (at_halt n (put o.known id (W k)) s.words s.homes o.wide 1
          (mail_stays n s o id was.0 (W k) (refl, refl, refl, refl, refl, refl))
          (ring_stays n s o id was.0 (W k) refl refl)
          (halt_moved n o.known (halt_in n s.words) (stops_in n s.words) id (W k) true (stops_in n s.words) o.moment.halt record {
            up = λ e. refl;
            halted = λ e. refl;
            knows = λ e. refl;
            by_one = λ e. (id, was.0, ap (λ (v : Known). v.halted) (put_here o.known id (W k)));
            bits = λ j h. put_same (λ i x. x.stopped) o.known id (W k) refl j ∙ o.moment.halt.bits j h;
            left = λ v e. put_same (λ i x. x.stopped) o.known id (W k) refl v ∙ o.moment.halt.left id v was.0 e;
            stays = λ e. e;
            gone = λ e. absurd (let clash : true ≡ false = sym e ∙ unstopped in cc);
          })),
      refl,
    )

halt_facts : (v : Known) (b : Bool) → let w : Known = halt_seen v b in (w.number ≡ v.number) × (w.n ≡ v.n) × (w.serves ≡ v.serves) × (w.given ≡ v.given)
    × (w.taken ≡ v.taken) × (w.own ≡ v.own) × (w.halted ≡ v.halted) × (w.stopped ≡ v.stopped)
halt_facts v true = (refl, refl, refl, refl, refl, refl, refl, refl)
halt_facts v false = (refl, refl, refl, refl, refl, refl, refl, refl)

halt_turns : (n : ℕ) (known : ℕ → Known) (signs : ℕ → Sign) (token : Rattle.ring_core.specs.declared.states.Token.Token) → RingFacts n known signs token
    → (id : ℕ) → id < n → (word found left : ℕ) (b : Bool) → RingFacts n (put known id (halt_seen (noted (known id) word found left) b)) signs token
halt_turns n known signs token T id me word found left true = calm_all n known signs token T id me (halt_seen (noted (known id) word found left) true) refl tt
halt_turns n known signs token T id me word found left false = calm_all n known signs token T id me
    (halt_seen (noted (known id) word found left) false) refl (T.here id me)

halt_known : (v : Known) (b : Bool) → (halt_seen v b).knows_halt ≡ true → (b ≡ true) ⊎ (v.knows_halt ≡ true)
halt_known v true e = inl refl
halt_known v false e = inr e

pub allows_load_halt : (n slots id : ℕ) (m : SeatState) → Going m → Allows (Rule n) slots id m (n + 1) (λ r. r)
    (LoadHaltTells (step slots (n + 1) 0 0 none) m)
allows_load_halt n slots id m G s o wide here small =
    let was = o.seated id m.0 here G.live in
    let r : ℕ = get_or s.words (n + 1) 0 in
    let W : Known → Known = λ v. halt_seen (noted v (n + 1) r r) (r == 1) in
    let k : Known = o.known id in
    let unstopped : k.stopped ≡ false = ap (λ (v : Known). v.stopped) was.1 ∙ G.goes in
    let f = halt_facts (noted k (n + 1) r r) (r == 1) in (
      knows m.0 (W m.0.own),
      keeps,
      tt,
      reads n s o id m.0 W (n + 1) here G.live
          (mail_stays n s o id was.0 (W k) (f.0, f.1, f.2, f.3, f.4, f.5))
          (halt_turns n o.known (signs_in n s.words) (token_in s.words) o.moment.ring id was.0 (n + 1) r r (r == 1))
          (halt_moved n o.known (halt_in n s.words) (stops_in n s.words) id (W k) (halt_in n s.words) (stops_in n s.words) o.moment.halt record {
            up = λ e. e;
            halted = λ e. o.moment.halt.halted id was.0 (sym f.6 ∙ e);
            knows = λ e. ⊎_elim (λ b. b) (λ q. o.moment.halt.knows id was.0 q) (halt_known (noted k (n + 1) r r) (r == 1) e);
            by_one = λ e. (let p = o.moment.halt.by_one e in (p.0, p.1, put_same (λ j x. x.halted) o.known id (W k) f.6 p.0 ∙ p.2));
            bits = λ j h. put_same (λ i x. x.stopped) o.known id (W k) f.7 j ∙ o.moment.halt.bits j h;
            left = λ v e. put_same (λ i x. x.stopped) o.known id (W k) f.7 v ∙ o.moment.halt.left id v was.0 (sym f.5 ∙ e);
            stays = λ e. f.7 ∙ e;
            gone = λ e. absurd (let clash : true ≡ false = sym e ∙ f.7 ∙ unstopped in cc);
          }),
      (refl, λ e. eqb-true r 1 (o.moment.halt.halted id was.0 (ap (λ (v : Known). v.halted) was.1 ∙ e))),
    )

pub allows_stop : (n slots id bit : ℕ) (m : SeatState) → Going m → m.0.own.own ≡ Resting
    → ((r : ℕ) → serves m.0.own r ≡ false) → bit ≡ 2 ^ m.0.own.number
    → Allows (Rule n) slots id m (n + 2) (λ w. bit_or w bit) (StopTells (step slots (n + 2) bit 0 none) m)
allows_stop n slots id bit m G rests idle is s o wide here small =
    let was = o.seated id m.0 here G.live in
    let r : ℕ = get_or s.words (n + 2) 0 in
    let W : Known → Known = λ v. record (noted v (n + 2) r (bit_or r (2 ^ v.number))) { stopped = true } in
    let k : Known = o.known id in
    let number : m.0.own.number ≡ id = ap (λ (v : Known). v.number) (sym was.1) ∙ (o.moment.mailboxes.named id was.0).0 in
    let bit_id : bit ≡ 2 ^ id = is ∙ ap (λ (j : ℕ). 2 ^ j) number in
    let new : ℕ = bit_or r bit in (
      knows m.0 (W m.0.own),
      keeps,
      tt,
      frame n s o id m.0 W (set s.words (n + 2) new) s.homes here G.live (length-set s.words (n + 2) new) refl
          (at_stops n (put o.known id (W k)) s.words s.homes o.wide new
          (mail_stays n s o id was.0 (W k) (refl, refl, refl, refl, refl, refl))
          (ring_stays n s o id was.0 (W k) refl refl)
          (halt_moved n o.known (halt_in n s.words) (stops_in n s.words) id (W k) (halt_in n s.words) (has_bit new) o.moment.halt record {
            up = λ e. e;
            halted = o.moment.halt.halted id was.0;
            knows = o.moment.halt.knows id was.0;
            by_one = λ e. (let p = o.moment.halt.by_one e in (p.0, p.1, put_same (λ j x. x.halted) o.known id (W k) refl p.0 ∙ p.2));
            bits = λ j h. subst (λ (b : ℕ). (put o.known id (W k) j).stopped ≡ has_bit (bit_or r b) j) (sym bit_id)
                (put_all (λ i x. x.stopped ≡ has_bit (bit_or r (2 ^ id)) i) o.known id (W k) j (sym (bit_set r id))
                (λ ne. o.moment.halt.bits j h ∙ sym (bit_else r id j ne)));
            left = λ v e. absurd (let clash : Left v ≡ Resting = sym e ∙ ap (λ (x : Known). x.own) was.1 ∙ rests in cc);
            stays = λ e. refl;
            gone = λ e. (
              ap (λ (x : Known). x.own) was.1 ∙ rests,
              ap (λ (x : Known). x.ended) was.1 ∙ G.runs,
              λ j. ap (λ (x : Known). serves x j) was.1
                  ∙ idle j,
            );
          })),
      refl,
    )

open_still : (b : Bool) (v : ℕ) (d : Sign) → OpenFits v d → OwnFits (cond b (Left v) (Open v)) d
open_still true v d h = h
open_still false v d h = h

stop_fits : (o : OwnMailbox) (found : ℕ) (d : Sign) → OwnFits o d → OwnFits (stop_seen o found) d
stop_fits (Open v) found d h = open_still (has_bit found v) v d h
stop_fits _ found d h = h

same_asked : (b : Bool) (v : ℕ) → asked_of (cond b (Left v) (Open v)) ≡ Some v
same_asked true v = refl
same_asked false v = refl

stop_asked : (o : OwnMailbox) (found : ℕ) → asked_of (stop_seen o found) ≡ asked_of o
stop_asked (Open v) found = same_asked (has_bit found v) v
stop_asked _ found = refl

left_by : (b : Bool) (v u : ℕ) → cond b (Left v) (Open v) ≡ Left u → (v ≡ u) × (b ≡ true)
left_by true v u e = ((let same : v ≡ u = cc in same), refl)
left_by false v u e = absurd (cc)

stop_left : (o : OwnMailbox) (found u : ℕ) → stop_seen o found ≡ Left u → (o ≡ Left u) ⊎ ((o ≡ Open u) × (has_bit found u ≡ true))
stop_left (Open v) found u e = let p = left_by (has_bit found v) v u e in inr (ap Open p.0, ap (has_bit found) (sym p.0) ∙ p.1)
stop_left (Left v) found u e = inl e
stop_left _ found u e = absurd (cc)

pub allows_load_stops : (n slots id : ℕ) (m : SeatState) → Going m → Allows (Rule n) slots id m (n + 2) (λ r. r)
    (LoadStopsTells (step slots (n + 2) 0 0 none) m)
allows_load_stops n slots id m G s o wide here small =
    let was = o.seated id m.0 here G.live in
    let r : ℕ = get_or s.words (n + 2) 0 in
    let W : Known → Known = λ v. after_stops v (n + 2) r in
    let k : Known = o.known id in (
      knows m.0 (W m.0.own),
      keeps,
      tt,
      reads n s o id m.0 W (n + 2) here G.live
          (unmoved n o.known (signs_in n s.words) (slots_in s.homes) id (W k) was.0 o.moment.mailboxes refl refl refl refl refl
          (stop_fits k.own r (signs_in n s.words id) (o.moment.mailboxes.own id was.0))
          (λ v e. o.moment.mailboxes.away id was.0 v (sym (stop_asked k.own r) ∙ e)))
          (ring_stays n s o id was.0 (W k) refl refl)
          (same_halt n s o id m here G (W k) refl refl refl (λ v e. ⊎_elim (λ q. o.moment.halt.left id v was.0 q)
          (λ q. o.moment.halt.bits v (o.moment.mailboxes.away id was.0 v (ap asked_of q.0)).0 ∙ q.1) (stop_left k.own r v e))),
      (
        refl,
        λ v e. subst (λ (j : ℕ). v < j) (sym (o.moment.mailboxes.named id was.0).1 ∙ ap (λ (x : Known). x.n) was.1)
            (o.moment.mailboxes.away id was.0 v (ap asked_of (ap (λ (x : Known). x.own) was.1 ∙ e))).0,
      ),
    )

abbrev pub Goes : ℕ → TableState → ℕ → ℕ → SeatState → (ℕ → SeatState → Type 0) → ℕ → Type 0
Goes n s i id m then x = (w : View) × (a : Act Parcel) × Valid s.homes m.1 a × Rule n (stepped s i x id m.1 w a) × then (get_or s.words i 0)
    (w, carried_after m.1 a)

pub learn_left : (o : OwnMailbox) (d : Sign) (v u : ℕ) → o ≡ Left v → learn o d ≡ Left u → v ≡ u
learn_left o resting v u e f = cc
learn_left o _ v u e f = cc

pub allows_withdraw : (n slots id r v : ℕ) (m : SeatState) → Going m → m.0.own.number ≡ r
    → m.0.own.own ≡ Left v
    → Allows (Rule n) slots id m (r + 1) (λ w. either (eqb w (word_of (asking v))) (word_of resting) w)
    (WithdrawTells (step slots (r + 1) (word_of (asking v)) (word_of resting) none) m)
allows_withdraw n slots id r v m G mine leaves s o wide here small =
    let was = o.seated id m.0 here G.live in
    let found : ℕ = get_or s.words (r + 1) 0 in
    let k : Known = o.known id in
    let A = at_own n s o id m here G r mine in
    let left_own : k.own ≡ Left v = ap (λ (x : Known). x.own) was.1 ∙ leaves in
    let away : (v < n) × (v ≢ id) = o.moment.mailboxes.away id was.0 v (ap asked_of left_own) in
    let gone : IsGone (o.known v) = o.moment.halt.gone v away.0 (o.moment.halt.left id v was.0 left_own) in
    let fits : OpenFits v (signs_in n s.words id) = subst (λ (x : OwnMailbox). OwnFits x (signs_in n s.words id)) left_own (o.moment.mailboxes.own id was.0) in
    exchanged found (word_of (asking v)) (word_of resting) (Goes n s (r + 1) id m
    (WithdrawTells (step slots (r + 1) (word_of (asking v)) (word_of resting) none) m))
    (λ hit.
    let W : Known → Known = λ x. after_rest x (r + 1) found true in
    let asks : signs_in n s.words id ≡ asking v = A.found ∙ ap sign hit ∙ sign_of_word (asking v) in (
      knows m.0 (W m.0.own),
      keeps,
      tt,
      own_rests n s o id m here G r A (λ j e. cc)
          (slot_under n o.known (signs_in n s.words) (slots_in s.homes) o.moment.mailboxes id was.0 (asking v) asks)
          (withdraws n o.known (signs_in n s.words) (token_in s.words) o.moment.ring id was.0 (W k) v away.0 (λ e. away.1 (sym e))
          (ap (λ (x : Known). x.ended) was.1 ∙ G.runs) gone.1 asks refl refl),
      (λ u e. ((λ q. refl), (λ q. absurd (q hit)))),
    ))
    (λ miss.
    let W : Known → Known = λ x. after_look x (r + 1) found in
    let no_ask : sign found ≢ asking v = λ e. miss (one_word found v e) in
    let no_serve : sign found ≢ serving v = λ e. (let yes : serves (o.known v) id ≡ true = o.moment.mailboxes.served id v was.0 away.0 (A.found ∙ e) in
    let never : serves (o.known v) id ≡ false = gone.2 id in cc) in
    let answered : (sign found ≡ full v) ⊎ (sign found ≡ emptied v) = ⊎_elim (λ a. absurd (no_ask (sym A.found ∙ a)))
    (λ b. ⊎_elim (λ c. absurd (no_serve (sym A.found ∙ c))) (λ d. ⊎_elim (λ e. inl (sym A.found ∙ e)) (λ e. inr (sym A.found ∙ e)) d) b) fits in
    let found_fits : OwnFits k.own (sign found) = subst (OwnFits k.own) A.found (o.moment.mailboxes.own id was.0) in (
      knows m.0 (W m.0.own),
      keeps,
      tt,
      reads n s o id m.0 W (r + 1) here G.live
          (unmoved n o.known (signs_in n s.words) (slots_in s.homes) id (W k) was.0 o.moment.mailboxes refl refl refl refl refl
          (subst (OwnFits (learn k.own (sign found))) (sym A.found) (learns k.own (sign found) found_fits))
          (λ u e. o.moment.mailboxes.away id was.0 u (learns_away k.own (sign found) found_fits u e)))
          (ring_stays n s o id was.0 (W k) refl refl)
          (same_halt n s o id m here G (W k) refl refl refl (λ u e. subst (λ (j : ℕ). (o.known j).stopped ≡ true)
          (learn_left k.own (sign found) v u left_own e) (o.moment.halt.left id v was.0 left_own))),
      (λ u e. (let same : u ≡ v = (let p : Left u ≡ Left v = sym e ∙ leaves in cc) in
          ((λ q. absurd (miss q)), (λ q. (subst (λ (j : ℕ). (sign found ≡ full j) ⊎ (sign found ≡ emptied j)) (sym same) answered, refl))))),
    ))

-- the same, where the word is known by its number
pub allows_set_halt_at : (n slots id word : ℕ) (m : SeatState) → Going m → word ≡ n + 1
    → Allows (Rule n) slots id m word (λ _. 1) (SetHaltTells (step slots word 1 0 none) m)
allows_set_halt_at n slots id word m G is = subst (λ (w : ℕ). Allows (Rule n) slots id m w (λ _. 1) (SetHaltTells (step slots w 1 0 none) m)) (sym is)
    (allows_set_halt n slots id m G)

pub allows_load_halt_at : (n slots id word : ℕ) (m : SeatState) → Going m → word ≡ n + 1
    → Allows (Rule n) slots id m word (λ r. r) (LoadHaltTells (step slots word 0 0 none) m)
allows_load_halt_at n slots id word m G is = subst (λ (w : ℕ). Allows (Rule n) slots id m w (λ r. r) (LoadHaltTells (step slots w 0 0 none) m)) (sym is)
    (allows_load_halt n slots id m G)

pub allows_load_stops_at : (n slots id word : ℕ) (m : SeatState) → Going m → word ≡ n + 2
    → Allows (Rule n) slots id m word (λ r. r) (LoadStopsTells (step slots word 0 0 none) m)
allows_load_stops_at n slots id word m G is = subst (λ (w : ℕ). Allows (Rule n) slots id m w (λ r. r) (LoadStopsTells (step slots w 0 0 none) m)) (sym is)
    (allows_load_stops n slots id m G)

pub allows_stop_at : (n slots id word bit : ℕ) (m : SeatState) → Going m → m.0.own.own ≡ Resting
    → ((r : ℕ) → serves m.0.own r ≡ false) → word ≡ n + 2 → bit ≡ 2 ^ m.0.own.number
    → Allows (Rule n) slots id m word (λ w. bit_or w bit) (StopTells (step slots word bit 0 none) m)
allows_stop_at n slots id word bit m G rests idle at is =
    subst (λ (w : ℕ). Allows (Rule n) slots id m w (λ x. bit_or x bit) (StopTells (step slots w bit 0 none) m)) (sym at)
    (allows_stop n slots id bit m G rests idle is)
