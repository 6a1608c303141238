-- What a step on one word leaves of the rule.
use Rattle.post_board.proofs.Prelude.{◌≡◌, ℕ, zero, suc, ◌+◌, ◌<◌, ◌≤◌, ◌≢◌, refl, sym, subst, ap, ◌∙◌, arith, Bool, true, false, cond, nat_lt, List, Option}
use Rattle.post_board.proofs.Prelude.{[], ◌∷◌, length, get_or, set, get_or-set_same, get_or-set_other, length-set, ◌==◌, lt-ltb, ltb-true, none, some, dite}
use Rattle.post_board.proofs.Prelude.{ℕ_discrete, get_elem?, set-get_or, put, put_here, put_elsewhere, Face, Seats, seat_knows, Token, Colour, has_bit, Sign}
use Rattle.post_board.proofs.Prelude.{resting, sign, token_read, Parcel, TableState, MailboxFacts, RingFacts, HaltFacts, Moment, Rule, signs_in, slots_in}
use Rattle.post_board.proofs.Prelude.{token_in, halt_in, stops_in, fresh, OwnFits, Away, HereFits, knows, Known, View, OwnMailbox}
use Rattle.post_board.specs.BoardRule.{place_of}
use mathlib.Core.Option as Core
use Rattle.post_board.proofs.FactLemmas.{unmoved}
use Rattle.post_board.proofs.RingLemmas.{calm_all}

-- the value at a place that the list has
pub there : {A : Type 0} (l : List A) (i : ℕ) (d x : A) → i < length l → get_or l i d ≡ x → get_elem? l i ≡ some x
there [] i d x h e = absurd (omega arith)
there (y ∷ l) zero d x h e = ap some e
there (y ∷ l) (suc i) d x h e = there l i d x (omega arith) e

-- the face of a board's seats
abbrev pub face : Face Known View
face = record {
  own = λ (v : View). v.own;
  made = λ (v : View). v.made;
  kept = λ (v : View). v.kept;
  live = λ (v : View). v.live;
  number = λ (x : Known). x.number;
}

-- the part of the rule that speaks of seats, and the rule with other seats, words and slots
pub seats_of : (n : ℕ) (s : TableState) (o : Rule n s) → Seats face n o.known (fresh n) s.views
seats_of n s o = record { seated = o.seated; kept = o.kept; dealt = o.dealt; unmade = o.unmade }

pub rule_with : (n : ℕ) (t : TableState) (known : ℕ → Known) → Seats face n known (fresh n) t.views → n ≤ 64 → length t.words ≡ n + 3
    → length t.homes ≡ n → Moment n known t.words t.homes → Rule n t
rule_with n t known S few wide slots moment = record {
  known = known;
  few = few;
  wide = wide;
  slots = slots;
  seated = S.seated;
  kept = S.kept;
  dealt = S.dealt;
  unmade = S.unmade;
  moment = moment;
}

-- the rule after a step: the seat `id` knows more, and the facts hold of the new words and slots
pub frame : (n : ℕ) (s : TableState) (o : Rule n s) (id : ℕ) (v : View) (W : Known → Known) (ws : List ℕ) (hs : List (Core.Option Parcel))
    → get_elem? s.views id ≡ some v → v.live ≡ true
    → length ws ≡ length s.words → length hs ≡ length s.homes → Moment n (put o.known id (W (o.known id))) ws hs
    → Rule n record { words = ws; homes = hs; views = set s.views id (knows v (W v.own)) }
frame n s o id v W ws hs here live long wide scene =
    rule_with n _ (put o.known id (W (o.known id)))
    (seat_knows (seats_of n s o) id v here live (W (o.known id)) (knows v (W v.own)) (ap W (o.seated id v here live).1) refl refl)
    o.few (long ∙ o.wide) (wide ∙ o.slots) scene

-- the knowledge w says the same of the rank, its mailbox and its batches
abbrev pub SameMail : Known → Known → Type 0
SameMail w v =
    (w.number ≡ v.number) × (w.n ≡ v.n) × (w.serves ≡ v.serves) × (w.given ≡ v.given) × (w.taken ≡ v.taken) × (w.own ≡ v.own)

-- the seat comes to know w, and the words and slots stay
module _ (n : ℕ) (s : TableState) (o : Rule n s) (id : ℕ) (inside : id < n) (w : Known) where
  pub mail_stays : SameMail w (o.known id) → MailboxFacts n (put o.known id w) (signs_in n s.words) (slots_in s.homes)
  mail_stays (number, size, serves, given, taken, own) =
      unmoved n o.known (signs_in n s.words) (slots_in s.homes) id w inside o.moment.mailboxes number size serves given taken
      (subst (λ (x : OwnMailbox). OwnFits x (signs_in n s.words id)) (sym own) (o.moment.mailboxes.own id inside))
      (subst (λ (x : OwnMailbox). Away n id x) (sym own) (o.moment.mailboxes.away id inside))

  pub ring_stays : place_of w resting ≡ place_of (o.known id) resting → w.here ≡ (o.known id).here
      → RingFacts n (put o.known id w) (signs_in n s.words) (token_in s.words)
  ring_stays place here = calm_all n o.known (signs_in n s.words) (token_in s.words) o.moment.ring id inside w place
      (subst (λ (x : Option Colour). HereFits x id (token_in s.words)) (sym here) (o.moment.ring.here id inside))

same_if : (b : Bool) (x y : ℕ) → (b ≡ true → x ≡ y) → cond b x 0 ≡ cond b y 0
same_if true x y e = e refl
same_if false x y e = refl

-- the mailbox word of a rank
pub mailbox_there : (n : ℕ) (ws : List ℕ) (r : ℕ) → r < n → signs_in n ws r ≡ sign (get_or ws (r + 1) 0)
mailbox_there n ws r h = ap (λ (b : Bool). sign (cond b (get_or ws (r + 1) 0) 0)) (lt-ltb r n h)

mailbox_put : (n : ℕ) (ws : List ℕ) (r m : ℕ) (d : Sign) → sign m ≡ d → r < n → r + 1 < length ws → signs_in n (set ws (r + 1) m) ≡ put (signs_in n ws) r d
mailbox_put n ws r m d reads h inside = λ i k. at k i
  where
    at : (k : ℕ) → signs_in n (set ws (r + 1) m) k ≡ put (signs_in n ws) r d k
    at k = dite (ℕ_discrete k r)
        (λ e. subst (λ (j : ℕ). signs_in n (set ws (r + 1) m) j ≡ put (signs_in n ws) r d j) (sym e)
        (mailbox_there n (set ws (r + 1) m) r h ∙ ap sign (get_or-set_same ws (r + 1) m 0 inside) ∙ reads ∙ sym (put_here (signs_in n ws) r d)))
        (λ ne. ap sign (same_if (nat_lt k n) (get_or (set ws (r + 1) m) (k + 1) 0) (get_or ws (k + 1) 0)
        (λ t. get_or-set_other ws (r + 1) (k + 1) m 0 (λ e. ne (omega arith)))) ∙ sym (put_elsewhere (signs_in n ws) r d k ne))

mailbox_else : (n : ℕ) (ws : List ℕ) (i m : ℕ) → ((r : ℕ) → r < n → r + 1 ≢ i) → signs_in n (set ws i m) ≡ signs_in n ws
mailbox_else n ws i m ne = λ t k. at k t
  where
    at : (k : ℕ) → signs_in n (set ws i m) k ≡ signs_in n ws k
    at k = ap sign (same_if (nat_lt k n) (get_or (set ws i m) (k + 1) 0) (get_or ws (k + 1) 0) (λ b. get_or-set_other ws i (k + 1) m 0 (ne k (ltb-true k n b))))

pub slot_put : (hs : List (Core.Option Parcel)) (r : ℕ) (x : Core.Option Parcel) → r < length hs → slots_in (set hs r x) ≡ put (slots_in hs) r x
slot_put hs r x inside = λ i k. at k i
  where
    at : (k : ℕ) → slots_in (set hs r x) k ≡ put (slots_in hs) r x k
    at k = dite (ℕ_discrete k r)
        (λ e. subst (λ (j : ℕ). slots_in (set hs r x) j ≡ put (slots_in hs) r x j) (sym e)
        (get_or-set_same hs r x none inside ∙ sym (put_here (slots_in hs) r x)))
        (λ ne. get_or-set_other hs r k x none ne ∙ sym (put_elsewhere (slots_in hs) r x k ne))

module _ (n : ℕ) (known : ℕ → Known) (ws : List ℕ) (hs : List (Core.Option Parcel)) (wide : length ws ≡ n + 3) where
  pub at_mailbox : (r m : ℕ) (d : Sign) (S : ℕ → Core.Option Parcel) → sign m ≡ d → r < n → slots_in hs ≡ S
      → MailboxFacts n known (put (signs_in n ws) r d) S → RingFacts n known (put (signs_in n ws) r d) (token_in ws)
      → HaltFacts n known (halt_in n ws) (stops_in n ws)
      → Moment n known (set ws (r + 1) m) hs
  at_mailbox r m d S reads h slots F T H =
      let same : signs_in n (set ws (r + 1) m) ≡ put (signs_in n ws) r d = mailbox_put n ws r m d reads h (omega arith) in
      let at0 : get_or (set ws (r + 1) m) 0 0 ≡ get_or ws 0 0 = get_or-set_other ws (r + 1) 0 m 0 (λ e. omega arith) in
      let at1 : get_or (set ws (r + 1) m) (n + 1) 0 ≡ get_or ws (n + 1) 0 = get_or-set_other ws (r + 1) (n + 1) m 0 (λ e. omega arith) in
      let at2 : get_or (set ws (r + 1) m) (n + 2) 0 ≡ get_or ws (n + 2) 0 = get_or-set_other ws (r + 1) (n + 2) m 0 (λ e. omega arith) in
      record {
        mailboxes = subst (λ (f : ℕ → Sign). MailboxFacts n known f (slots_in hs)) (sym same)
            (subst (MailboxFacts n known (put (signs_in n ws) r d)) (sym slots) F);
        ring = subst (λ (f : ℕ → Sign). RingFacts n known f (token_in (set ws (r + 1) m))) (sym same)
            (subst (λ (x : ℕ). RingFacts n known (put (signs_in n ws) r d) (token_read x)) (sym at0) T);
        halt = subst (λ (x : ℕ). HaltFacts n known (x == 1) (stops_in n (set ws (r + 1) m))) (sym at1)
            (subst (λ (x : ℕ). HaltFacts n known (halt_in n ws) (has_bit x)) (sym at2) H);
      }

  pub at_ring : (m : ℕ) (t : Token) → token_read m ≡ t → MailboxFacts n known (signs_in n ws) (slots_in hs) → RingFacts n known (signs_in n ws) t
      → HaltFacts n known (halt_in n ws) (stops_in n ws)
      → Moment n known (set ws 0 m) hs
  at_ring m t reads F T H =
      let same : signs_in n (set ws 0 m) ≡ signs_in n ws = mailbox_else n ws 0 m (λ r h e. omega arith) in
      let at0 : get_or (set ws 0 m) 0 0 ≡ m = get_or-set_same ws 0 m 0 (omega arith) in
      let at1 : get_or (set ws 0 m) (n + 1) 0 ≡ get_or ws (n + 1) 0 = get_or-set_other ws 0 (n + 1) m 0 (λ e. omega arith) in
      let at2 : get_or (set ws 0 m) (n + 2) 0 ≡ get_or ws (n + 2) 0 = get_or-set_other ws 0 (n + 2) m 0 (λ e. omega arith) in
      record {
        mailboxes = subst (λ (f : ℕ → Sign). MailboxFacts n known f (slots_in hs)) (sym same) F;
        ring = subst (λ (f : ℕ → Sign). RingFacts n known f (token_in (set ws 0 m))) (sym same)
            (subst (λ (x : Token). RingFacts n known (signs_in n ws) x) (sym (ap token_read at0 ∙ reads)) T);
        halt = subst (λ (x : ℕ). HaltFacts n known (x == 1) (stops_in n (set ws 0 m))) (sym at1)
            (subst (λ (x : ℕ). HaltFacts n known (halt_in n ws) (has_bit x)) (sym at2) H);
      }

  pub at_halt : (m : ℕ) → MailboxFacts n known (signs_in n ws) (slots_in hs) → RingFacts n known (signs_in n ws) (token_in ws)
      → HaltFacts n known (m == 1) (stops_in n ws) → Moment n known (set ws (n + 1) m) hs
  at_halt m F T H =
      let same : signs_in n (set ws (n + 1) m) ≡ signs_in n ws = mailbox_else n ws (n + 1) m (λ r h e. omega arith) in
      let at0 : get_or (set ws (n + 1) m) 0 0 ≡ get_or ws 0 0 = get_or-set_other ws (n + 1) 0 m 0 (λ e. omega arith) in
      let at1 : get_or (set ws (n + 1) m) (n + 1) 0 ≡ m = get_or-set_same ws (n + 1) m 0 (omega arith) in
      let at2 : get_or (set ws (n + 1) m) (n + 2) 0 ≡ get_or ws (n + 2) 0 = get_or-set_other ws (n + 1) (n + 2) m 0 (λ e. omega arith) in
      record {
        mailboxes = subst (λ (f : ℕ → Sign). MailboxFacts n known f (slots_in hs)) (sym same) F;
        ring = subst (λ (f : ℕ → Sign). RingFacts n known f (token_in (set ws (n + 1) m))) (sym same)
            (subst (λ (x : ℕ). RingFacts n known (signs_in n ws) (token_read x)) (sym at0) T);
        halt = subst (λ (x : ℕ). HaltFacts n known (x == 1) (stops_in n (set ws (n + 1) m))) (sym at1)
            (subst (λ (x : ℕ). HaltFacts n known (m == 1) (has_bit x)) (sym at2) H);
      }

  pub at_stops : (m : ℕ) → MailboxFacts n known (signs_in n ws) (slots_in hs) → RingFacts n known (signs_in n ws) (token_in ws)
      → HaltFacts n known (halt_in n ws) (has_bit m) → Moment n known (set ws (n + 2) m) hs
  at_stops m F T H =
      let same : signs_in n (set ws (n + 2) m) ≡ signs_in n ws = mailbox_else n ws (n + 2) m (λ r h e. omega arith) in
      let at0 : get_or (set ws (n + 2) m) 0 0 ≡ get_or ws 0 0 = get_or-set_other ws (n + 2) 0 m 0 (λ e. omega arith) in
      let at1 : get_or (set ws (n + 2) m) (n + 1) 0 ≡ get_or ws (n + 1) 0 = get_or-set_other ws (n + 2) (n + 1) m 0 (λ e. omega arith) in
      let at2 : get_or (set ws (n + 2) m) (n + 2) 0 ≡ m = get_or-set_same ws (n + 2) m 0 (omega arith) in
      record {
        mailboxes = subst (λ (f : ℕ → Sign). MailboxFacts n known f (slots_in hs)) (sym same) F;
        ring = subst (λ (f : ℕ → Sign). RingFacts n known f (token_in (set ws (n + 2) m))) (sym same)
            (subst (λ (x : ℕ). RingFacts n known (signs_in n ws) (token_read x)) (sym at0) T);
        halt = subst (λ (x : ℕ). HaltFacts n known (x == 1) (stops_in n (set ws (n + 2) m))) (sym at1)
            (subst (λ (x : ℕ). HaltFacts n known (halt_in n ws) (has_bit x)) (sym at2) H);
      }

  -- a load
  pub at_none : (i : ℕ) → MailboxFacts n known (signs_in n ws) (slots_in hs) → RingFacts n known (signs_in n ws) (token_in ws)
      → HaltFacts n known (halt_in n ws) (stops_in n ws) → Moment n known (set ws i (get_or ws i 0)) hs
  at_none i F T H = subst (λ (vs : List ℕ). Moment n known vs hs) (sym (set-get_or ws i 0)) record { mailboxes = F; ring = T; halt = H }

-- The pattern of a kind of step. A seat that is in use steps on one word and comes to know W of what it knew; what is owed is the three parts of the rule
-- afterwards, for the words, the slots and what the seats then know: (1) mailboxes, by `mail_stays` or a lemma of MailboxLemmas; (2) the ring, by
-- `ring_stays` or, where the step is a deed, a lemma of RingLemmas; (3) the halt, by `same_halt` of GoingSteps or `halt_moved`. (4) `reads` and `writes` put
-- them into the rule.
module _ (n : ℕ) (s : TableState) (o : Rule n s) (id : ℕ) (v : View) (W : Known → Known) where
  -- the word i is read and stays as it is
  pub reads : (i : ℕ) → get_elem? s.views id ≡ some v → v.live ≡ true
      → MailboxFacts n (put o.known id (W (o.known id))) (signs_in n s.words) (slots_in s.homes)
      → RingFacts n (put o.known id (W (o.known id))) (signs_in n s.words) (token_in s.words)
      → HaltFacts n (put o.known id (W (o.known id))) (halt_in n s.words) (stops_in n s.words)
      → Rule n record { words = set s.words i (get_or s.words i 0); homes = s.homes; views = set s.views id (knows v (W v.own)) }
  reads i here live F T H =
      frame n s o id v W (set s.words i (get_or s.words i 0)) s.homes here live (length-set s.words i (get_or s.words i 0)) refl
      (at_none n (put o.known id (W (o.known id))) s.words s.homes o.wide i F T H)

  -- the mailbox of r comes to say d, by this code, and slots may go out or come home with it
  pub writes : (r code : ℕ) (d : Sign) (hs : List (Core.Option Parcel)) (slots : ℕ → Core.Option Parcel) → get_elem? s.views id ≡ some v → v.live ≡ true
      → length hs ≡ length s.homes → sign code ≡ d → r < n → slots_in hs ≡ slots
      → MailboxFacts n (put o.known id (W (o.known id))) (put (signs_in n s.words) r d) slots
      → RingFacts n (put o.known id (W (o.known id))) (put (signs_in n s.words) r d) (token_in s.words)
      → HaltFacts n (put o.known id (W (o.known id))) (halt_in n s.words) (stops_in n s.words)
      → Rule n record { words = set s.words (r + 1) code; homes = hs; views = set s.views id (knows v (W v.own)) }
  writes r code d hs slots here live same says inside are F T H =
      frame n s o id v W (set s.words (r + 1) code) hs here live (length-set s.words (r + 1) code) same
      (at_mailbox n (put o.known id (W (o.known id))) s.words hs o.wide r code d slots says inside are F T H)
