-- Each step of a seat is one deed on the picture, or none.
use Rattle.post_board.proofs.Prelude.{◌≡◌, ℕ, ◌<◌, ◌≢◌, refl, sym, subst, ap, ◌∙◌, Bool, true, false, nat_lt, cond, Option, Some, put, Colour, White, Black}
use Rattle.post_board.proofs.Prelude.{Token, At, Over, Told, Place, vacant, place, put_place, withdraw, told_late, HereFits, Sign, resting, serving, TableState}
use Rattle.post_board.proofs.Prelude.{Rule, OwnFits, asked_of, mail_of, serves, signs_in, slots_in, token_in, told_at, noted, after_ask, after_look}
use Rattle.post_board.proofs.Prelude.{after_taking, after_post, after_refusing, after_fetch, after_rest, heard_at, after_pass, after_restart, after_conclude}
use Rattle.post_board.proofs.Prelude.{after_halt, halt_seen, after_stop, after_stops, IsNone, MailboxTurns, RingTurns, HaltTurns, Known, OwnMailbox, Resting}
use Rattle.post_board.proofs.Prelude.{Filled, Emptied, Getting}
use Rattle.post_board.specs.BoardRule.{place_of, told_of}
use Rattle.post_board.proofs.MailboxLemmas.{not_self}
use Rattle.post_board.proofs.RingLemmas as Turns
use Rattle.post_board.proofs.Sheets.{places, put_one, seen_own, place_at}

module _ (n : ℕ) (s : TableState) (o : Rule n s) (id : ℕ) (me : id < n) (live : (o.known id).ended ≡ false) where
  abbrev own : Known
  own = o.known id

  abbrev signs : ℕ → Sign
  signs = signs_in n s.words

  abbrev token : Token
  token = token_in s.words

  -- a rank with this request has another one in it, and its mailbox says so
  asked : (v : ℕ) → asked_of own.own ≡ Some v → (v < n) × (v ≢ id)
  asked v e = o.moment.mailboxes.away id me v e

  fits : (x : OwnMailbox) → own.own ≡ x → OwnFits x (signs id)
  fits x e = subst (λ (y : OwnMailbox). OwnFits y (signs id)) e (o.moment.mailboxes.own id me)

  apart : (v : ℕ) → v ≢ id → id ≢ v
  apart v ne e = ne (sym e)

  -- the picture is as it was
  same : (w : Known) → place_of w resting ≡ place_of own resting → IsNone n s o id w signs
  same w face = Turns.calm_told_all n o.known signs token o.moment.ring id me w face

  served : (r : ℕ) → r < n → serves own r ≡ true → signs r ≡ Rattle.post_board.specs.Words.serving id
  served r h e = o.moment.mailboxes.serving_is r id h me e

  number : own.number ≡ id
  number = (o.moment.mailboxes.named id me).0

  pub mailbox_turns : MailboxTurns n s o id
  mailbox_turns = record {
    asks = λ victim word found h ne rests. Turns.asks_does n o.known signs token o.moment.ring id me (after_ask own victim word found) victim h
        (apart victim ne) live (fits Resting rests) refl;
    looks = λ word found. same (after_look own word found) refl;
    takes_up = λ r word found asks. Turns.calm_told n o.known signs token o.moment.ring id me (after_taking own r word found) r (serving id) refl
        (sym (ap mail_of asks));
    scans = λ word found left. same (noted own word found left) refl;
    gives = λ r word found batch h serve busy. (let there : signs r ≡ serving id = served r h serve in
        Turns.posts_does n o.known signs token o.moment.ring id me (after_post own r word found batch) r h
        (not_self n o.known signs (slots_in s.homes) o.moment.mailboxes id me r h there) live busy (ap mail_of there)
        (ap (λ (j : ℕ). record (place_of own resting) { colour = cond (nat_lt j r) Black own.colour }) number));
    refuses = λ r word found h serve. (let there : signs r ≡ serving id = served r h serve in
        Turns.refuses_does n o.known signs token o.moment.ring id me (after_refusing own r word found) r h
        (not_self n o.known signs (slots_in s.homes) o.moment.mailboxes id me r h there) live (ap mail_of there) refl);
    fetches = λ from word found batch holds. (let away = asked from (ap asked_of holds) in
        Turns.fetches_does n o.known signs token o.moment.ring id me (after_fetch own from word found batch) from away.0 (apart from away.1) live
        (fits (Filled from) holds) refl);
    rests = λ from word found gets. Turns.calm_told n o.known signs token o.moment.ring id me (after_rest own word found own.tried) id resting refl
        (sym (ap mail_of (fits (Getting from) gets)));
    gives_up = λ from word found holds. (let away = asked from (ap asked_of holds) in
        Turns.empties_does n o.known signs token o.moment.ring id me (after_rest own word found true) from away.0 (apart from away.1) live
        (fits (Emptied from) holds) refl);
  }

  -- what the seat knows of the token is so
  holds : (c : Colour) → own.here ≡ Some c → token ≡ At id c
  holds c e = subst (λ (x : Option Colour). HereFits x id token) e (o.moment.ring.here id me)

  pub ring_turns : RingTurns n s o id
  ring_turns = record {
    sees_over = λ found left over.
        Turns.sees_over_does n o.known signs token o.moment.ring id me (heard_at (noted own 0 found left) Over) live over refl;
    sees = λ found left p c. same (heard_at (noted own 0 found left) (At p c)) refl;
    passes = λ found left c rests tried has above. Turns.passes_does n o.known signs token o.moment.ring id me (after_pass own found left) c above live
        tried (fits Resting rests) (holds c has) refl;
    restarts = λ found left c rests tried has first black. Turns.restarts_does n o.known signs token o.moment.ring id me (after_restart own found left) c
        first live tried (fits Resting rests) (holds c has) black refl;
    concludes = λ found left rests tried has first white. Turns.concludes_does n o.known signs token o.moment.ring id me (after_conclude own found left)
        first live tried (fits Resting rests) (holds White has) white refl;
  }

  heard : (word found left : ℕ) (b : Bool) → place_of (halt_seen (noted own word found left) b) resting ≡ place_of own resting
  heard word found left true = refl
  heard word found left false = refl

  -- the asker is left as by a refusal
  taken_back : (v : ℕ) (w : Known) → place_of w resting ≡ record (place_of own resting) { tried = true }
      → told_of n (put o.known id w) (put signs id resting) token ≡ told_late id (withdraw v) (told_at n s o)
  taken_back v w face =
      let t : Told = told_at n s o in
      let at : place t id ≡ place_of own (signs id) = place_at n (places o.known signs) token id me in
      sym (ap (λ (x : Place). put_place t id (record x { tried = true; mail = vacant })) at
      ∙ ap (λ (x : Place). put_place t id (record x { mail = vacant })) (sym face)
      ∙ put_one n (places o.known signs) (places (put o.known id w) (put signs id resting)) token id me id (place_of w resting) token me
      (seen_own o.known signs id w resting))

  pub halt_turns : HaltTurns n s o id
  halt_turns = record {
    halts = λ word found. same (after_halt own word found) refl;
    hears = λ word found left b. same (halt_seen (noted own word found left) b) (heard word found left b);
    stops = λ word found. same (after_stop own word found) refl;
    hears_stops = λ word found. same (after_stops own word found) refl;
    withdraws = λ v word found left asks. taken_back v (after_rest own word found true) refl;
  }
