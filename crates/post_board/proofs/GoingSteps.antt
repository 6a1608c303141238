-- A step of a seat that neither ended nor stopped: where it acts, and the facts that it leaves as they are.
use Rattle.post_board.proofs.Prelude.{◌≡◌, ◌≢◌, ℕ, ◌+◌, ◌<◌, refl, sym, subst, ap, ◌∙◌, arith, true, length, get_or, set, None, some, get_elem?, put, resting}
use Rattle.post_board.proofs.Prelude.{serving, sign, word_of, TableState, MailboxFacts, RingFacts, HaltFacts, Rule, signs_in, slots_in, token_in, halt_in}
use Rattle.post_board.proofs.Prelude.{stops_in, Going, SeatState, noted, knows, after_rest, Known, Left}
use Rattle.post_board.proofs.WordLemmas.{sign_of_word}
use Rattle.post_board.proofs.MailboxLemmas.{own_moves}
use Rattle.post_board.proofs.HaltLemmas.{halt_same}
use Rattle.post_board.proofs.Frames.{mailbox_there, mail_stays, ring_stays, reads, writes}

-- the seat acts on its own mailbox, that of r
pub record AtOwn (n : ℕ) (s : TableState) (id r : ℕ) : Type 0 where
  pub number : r ≡ id
  pub below : r < n
  pub home : r < length s.homes
  pub found : signs_in n s.words id ≡ sign (get_or s.words (r + 1) 0)

-- the seat of the rank me acts on the mailbox of r
pub record AtOther (n : ℕ) (s : TableState) (id r me : ℕ) : Type 0 where
  pub self : me ≡ id
  pub below : r < n
  pub home : r < length s.homes

module _ (n : ℕ) (s : TableState) (o : Rule n s) (id : ℕ) (m : SeatState) (here : get_elem? s.views id ≡ some m.0) (G : Going m) where
  was : (id < n) × (o.known id ≡ m.0.own)
  was = o.seated id m.0 here G.live

  -- what the seat knows of its number
  pub own_number : m.0.own.number ≡ id
  own_number = ap (λ (x : Known). x.number) (sym was.1) ∙ (o.moment.mailboxes.named id was.0).0

  pub at_own : (r : ℕ) → m.0.own.number ≡ r → AtOwn n s id r
  at_own r mine =
      let number : r ≡ id = sym mine ∙ own_number in
      let below : r < n = subst (λ (j : ℕ). j < n) (sym number) was.0 in
      record {
        number = number;
        below = below;
        home = (let a = o.slots in omega arith);
        found = ap (signs_in n s.words) (sym number) ∙ mailbox_there n s.words r below;
      }

  pub at_other : (r me : ℕ) → m.0.own.number ≡ me → r < m.0.own.n → AtOther n s id r me
  at_other r me mine bound =
      let below : r < n = subst (λ (j : ℕ). r < j) (ap (λ (x : Known). x.n) (sym was.1) ∙ (o.moment.mailboxes.named id was.0).1) bound in
      record {
        self = sym mine ∙ own_number;
        below = below;
        home = (let a = o.slots in omega arith);
      }

  -- a step that touches neither the halt nor the stops
  pub same_halt : (w : Known) → w.halted ≡ (o.known id).halted → w.knows_halt ≡ (o.known id).knows_halt → w.stopped ≡ (o.known id).stopped
      → ((v : ℕ) → w.own ≡ Left v → (o.known v).stopped ≡ true) → HaltFacts n (put o.known id w) (halt_in n s.words) (stops_in n s.words)
  same_halt w halted knows stopped left =
      halt_same n o.known (halt_in n s.words) (stops_in n s.words) id w was.0 o.moment.halt (ap (λ (x : Known). x.stopped) was.1 ∙ G.goes)
      halted knows stopped left

  -- a word was read, and the seat knows that alone
  pub only_reads : (i : ℕ) → Rule n record {
    words = set s.words i (get_or s.words i 0);
    homes = s.homes;
    views = set s.views id (knows m.0 (noted m.0.own i (get_or s.words i 0) (get_or s.words i 0)));
  }
  only_reads i =
      let r : ℕ = get_or s.words i 0 in
      let w : Known = noted (o.known id) i r r in
      reads n s o id m.0 (λ v. noted v i r r) i here G.live
      (mail_stays n s o id was.0 w (refl, refl, refl, refl, refl, refl))
      (ring_stays n s o id was.0 w refl refl)
      (same_halt w refl refl refl (λ u e. o.moment.halt.left id u was.0 e))

  -- the own mailbox, which nobody serves and whose slot is at home and empty, comes to rest
  pub own_rests : (r : ℕ) → AtOwn n s id r → ((k : ℕ) → signs_in n s.words id ≢ serving k) → slots_in s.homes id ≡ some None
      → RingFacts n (put o.known id (after_rest (o.known id) (r + 1) (get_or s.words (r + 1) 0) true)) (put (signs_in n s.words) id resting) (token_in s.words)
      → Rule n record {
        words = set s.words (r + 1) (word_of resting);
        homes = s.homes;
        views = set s.views id (knows m.0 (after_rest m.0.own (r + 1) (get_or s.words (r + 1) 0) true));
      }
  own_rests r A unserved slot ring =
      let W : Known → Known = λ v. after_rest v (r + 1) (get_or s.words (r + 1) 0) true in
      let w : Known = W (o.known id) in
      writes n s o id m.0 W r (word_of resting) resting s.homes (slots_in s.homes) here G.live refl (sign_of_word resting) A.below refl
      (subst (λ (j : ℕ). MailboxFacts n (put o.known id w) (put (signs_in n s.words) j resting) (slots_in s.homes)) (sym A.number)
      (own_moves n o.known (signs_in n s.words) (slots_in s.homes) o.moment.mailboxes id was.0 w resting refl refl refl refl refl refl (λ u e. cc)
      slot refl unserved (λ j e. cc)))
      (subst (λ (j : ℕ). RingFacts n (put o.known id w) (put (signs_in n s.words) j resting) (token_in s.words)) (sym A.number) ring)
      (same_halt w refl refl refl (λ u e. absurd (cc)))
