-- The steps on mailboxes: ask, look, take up, post batch, post none, fetch, rest.
use Rattle.post_board.proofs.Prelude.{◌≡◌, ℕ, ◌+◌, ◌-◌, ◌<◌, ◌≢◌, inl, refl, sym, subst, ap, ◌∙◌, arith, true, false, cond, nat_lt, List, ◌∷◌, get_or, set}
use Rattle.post_board.proofs.Prelude.{length-set, eqb, Some, None, either, step, keeps, takes, gives, rest, put_back, Allows, exchanged, none, some, put}
use Rattle.post_board.proofs.Prelude.{Colour, Strings, Sign, resting, asking, serving, full, fetching, emptied, sign, word_of, Parcel, MailboxFacts, RingFacts}
use Rattle.post_board.proofs.Prelude.{HaltFacts, Rule, serves, signs_in, slots_in, token_in, halt_in, stops_in, OwnFits, SlotFits, asked_of, mail_of, Going}
use Rattle.post_board.proofs.Prelude.{SeatState, noted, knows, knowing, after_ask, AskTells, learn, after_look, LookTells, after_taking, TakeUpTells, ScanTells}
use Rattle.post_board.proofs.Prelude.{after_post, front, GiveTells, after_refusing, RefuseTells, after_fetch, FetchTells, after_rest, RestTells, RestEmptyTells}
use Rattle.post_board.proofs.Prelude.{Known, OwnMailbox, Resting, Left, Filled, Emptied, Getting, dite, ℕ_discrete}
use mathlib.Core.Option as Core
use Rattle.post_board.proofs.WordLemmas.{sign_of_word}
use Rattle.post_board.proofs.Puts.{put_self}
use Rattle.post_board.proofs.FactLemmas.{unmoved}
use Rattle.post_board.proofs.MailboxLemmas.{own_moves, slot_under, not_self, takes_up, refuses, posts, fetches, rests, learns, learns_away}
use Rattle.post_board.proofs.RingLemmas as Turns
use Rattle.post_board.proofs.HaltSteps.{Goes}
use Rattle.post_board.proofs.Frames.{there, mailbox_there, slot_put, ring_stays, reads, writes}
use Rattle.post_board.proofs.GoingSteps.{own_number, at_own, at_other, same_halt, only_reads, own_rests}

pub allows_ask : (n slots id r victim : ℕ) (m : SeatState) → Going m → m.0.own.number ≡ r
    → m.0.own.own ≡ Resting → victim < m.0.own.n → victim ≢ r
    → Allows (Rule n) slots id m (r + 1) (λ _. word_of (asking victim)) (AskTells (step slots (r + 1) (word_of (asking victim)) 0 none) m)
allows_ask n slots id r victim m G mine rested bound apart s o wide here small =
    let was = o.seated id m.0 here G.live in
    let found : ℕ = get_or s.words (r + 1) 0 in
    let k : Known = o.known id in
    let A = at_own n s o id m here G r mine in
    let calm : signs_in n s.words id ≡ resting = subst (λ (x : OwnMailbox). OwnFits x (signs_in n s.words id))
    (ap (λ (x : Known). x.own) was.1 ∙ rested) (o.moment.mailboxes.own id was.0) in
    let in_n : victim < n = subst (λ (j : ℕ). victim < j) (ap (λ (x : Known). x.n) (sym was.1) ∙ (o.moment.mailboxes.named id was.0).1) bound in
    let W : Known → Known = λ v. after_ask v victim (r + 1) found in (
      knows m.0 (W m.0.own),
      keeps,
      tt,
      writes n s o id m.0 W r (word_of (asking victim)) (asking victim) s.homes (slots_in s.homes) here G.live refl (sign_of_word (asking victim)) A.below refl
          (subst (λ (j : ℕ). MailboxFacts n (put o.known id (W k)) (put (signs_in n s.words) j (asking victim)) (slots_in s.homes)) (sym A.number)
          (own_moves n o.known (signs_in n s.words) (slots_in s.homes) o.moment.mailboxes id was.0 (W k) (asking victim) refl refl refl refl refl (inl refl)
          (λ v e. (let same : v ≡ victim = cc in (subst (λ (j : ℕ). j < n) (sym same) in_n, λ q. apart (sym same ∙ q ∙ sym A.number))))
          (slot_under n o.known (signs_in n s.words) (slots_in s.homes) o.moment.mailboxes id was.0 resting calm) refl (λ j e. cc) (λ j e. cc)))
          (subst (λ (j : ℕ). RingFacts n (put o.known id (W k)) (put (signs_in n s.words) j (asking victim)) (token_in s.words)) (sym A.number)
          (Turns.asks n o.known (signs_in n s.words) (token_in s.words) o.moment.ring id was.0 (W k) victim in_n (λ e. apart (sym e ∙ sym A.number))
          (ap (λ (x : Known). x.ended) was.1 ∙ G.runs) calm refl refl))
          (same_halt n s o id m here G (W k) refl refl refl (λ u e. absurd (cc))),
      (sym A.found ∙ calm, λ other e. let same : victim ≡ other = omega arith in ap (λ (x : ℕ). knowing m (after_ask m.0.own x (r + 1) found)) same),
    )

-- a look at the own mailbox
pub allows_look : (n slots id r : ℕ) (m : SeatState) → Going m → m.0.own.number ≡ r → ((v : ℕ) → m.0.own.own ≢ Left v)
    → Allows (Rule n) slots id m (r + 1) (λ w. w) (LookTells (step slots (r + 1) 0 0 none) m)
allows_look n slots id r m G mine stays s o wide here small =
    let was = o.seated id m.0 here G.live in
    let found : ℕ = get_or s.words (r + 1) 0 in
    let k : Known = o.known id in
    let A = at_own n s o id m here G r mine in
    let W : Known → Known = λ x. after_look x (r + 1) found in
    let fits : OwnFits k.own (sign found) = subst (OwnFits k.own) A.found (o.moment.mailboxes.own id was.0) in (
      knows m.0 (W m.0.own),
      keeps,
      tt,
      reads n s o id m.0 W (r + 1) here G.live
          (unmoved n o.known (signs_in n s.words) (slots_in s.homes) id (W k) was.0 o.moment.mailboxes refl refl refl refl refl
          (subst (OwnFits (learn k.own (sign found))) (sym A.found) (learns k.own (sign found) fits))
          (λ u e. o.moment.mailboxes.away id was.0 u (learns_away k.own (sign found) fits u e)))
          (ring_stays n s o id was.0 (W k) refl refl)
          (same_halt n s o id m here G (W k) refl refl refl (λ u e. o.moment.halt.left id u was.0 (not_left k.own (sign found) u e))),
      (subst (λ (x : Known). OwnFits x.own (sign found)) was.1 fits, refl),
    )
  where
    not_left : (o : OwnMailbox) (d : Sign) (u : ℕ) → learn o d ≡ Left u → o ≡ Left u
    not_left o (full i) u e = cc
    not_left o (emptied i) u e = cc
    not_left o _ u e = e

-- one compare_exchange at the mailbox of r, from asking this rank to being served by it
pub allows_take : (n slots id r me : ℕ) (m : SeatState) → Going m → m.0.own.number ≡ me → r < m.0.own.n → r ≢ me
    → Allows (Rule n) slots id m (r + 1) (λ w. either (eqb w (word_of (asking me))) (word_of (serving me)) w)
    (TakeUpTells (step slots (r + 1) (word_of (asking me)) (word_of (serving me)) none) m)
allows_take n slots id r me m G mine bound other s o wide here small =
    let was = o.seated id m.0 here G.live in
    let A = at_other n s o id m here G r me mine bound in
    let found : ℕ = get_or s.words (r + 1) 0 in
    let k : Known = o.known id in
    let back : r + 1 - 1 ≡ r = omega arith in
    let sign_now : signs_in n s.words r ≡ sign found = mailbox_there n s.words r A.below in
    exchanged found (word_of (asking me)) (word_of (serving me))
    (Goes n s (r + 1) id m (TakeUpTells (step slots (r + 1) (word_of (asking me)) (word_of (serving me)) none) m))
    (λ hit.
    let W : Known → Known = λ v. after_taking v r (r + 1) found in
    let asked_here : signs_in n s.words r ≡ asking id = sign_now ∙ ap sign hit ∙ sign_of_word (asking me) ∙ ap asking A.self in
    let empty : slots_in s.homes r ≡ some None = subst (λ (d : Sign). SlotFits d (slots_in s.homes r)) asked_here (o.moment.mailboxes.held r A.below) in
    let not_yet : serves k r ≡ false = Turns.not_true (serves k r)
    (λ e. (let there : signs_in n s.words r ≡ serving id = o.moment.mailboxes.serving_is r id A.below was.0 e in cc)) in (
      knows m.0 (W m.0.own),
      takes r None,
      there s.homes r none (some None) A.home empty,
      writes n s o id m.0 W r (word_of (serving me)) (serving id) (set s.homes r none) (put (slots_in s.homes) r none) here G.live
          (length-set s.homes r none) (sign_of_word (serving me) ∙ ap serving A.self) A.below (slot_put s.homes r none A.home)
          (takes_up n o.known (signs_in n s.words) (slots_in s.homes) o.moment.mailboxes id was.0 (W k) r A.below
          (λ e. other (sym e ∙ sym A.self)) asked_here refl refl refl refl refl refl)
          (Turns.calm n o.known (signs_in n s.words) (token_in s.words) o.moment.ring id was.0 (W k) r (serving id) refl (sym (ap mail_of asked_here))
          (o.moment.ring.here id was.0))
          (same_halt n s o id m here G (W k) refl refl refl (λ u e. o.moment.halt.left id u was.0 e)),
      (
        (λ e. (
          ap (serves m.0.own) back ∙ ap (λ (x : Known). serves x r) (sym was.1)
              ∙ not_yet,
          ap (λ (j : ℕ). (knows m.0 (after_taking m.0.own j (r + 1) found), (j, None) ∷ m.1)) (sym back),
        )),
        (λ ne. absurd (ne hit)),
      ),
    ))
    (λ miss. (
      knows m.0 (noted m.0.own (r + 1) found found),
      keeps,
      tt,
      only_reads n s o id m here G (r + 1),
      ((λ e. absurd (miss e)), (λ ne. refl)),
    ))

-- posting a batch, by a swap of the mailbox of r, which this rank serves, with the slot taken last filled
pub allows_post : (n slots id r me : ℕ) (m : SeatState) (b : Strings) → Going m
    → m.0.own.number ≡ me → r < m.0.own.n → serves m.0.own r ≡ true → m.0.own.busy ≡ true → m.1 ≡ (r, Some b) ∷ rest m.1
    → Allows (Rule n) slots id m (r + 1) (λ _. word_of (full me)) (GiveTells (step slots (r + 1) (word_of (full me)) 0 none) m)
allows_post n slots id r me m b G mine bound serve works carries s o wide here small =
    let was = o.seated id m.0 here G.live in
    let A = at_other n s o id m here G r me mine bound in
    let found : ℕ = get_or s.words (r + 1) 0 in
    let k : Known = o.known id in
    let back : r + 1 - 1 ≡ r = omega arith in
    let W : Known → Known = λ v. after_post v r (r + 1) found b in
    let served_here : signs_in n s.words r ≡ serving id = o.moment.mailboxes.serving_is r id A.below was.0 (ap (λ (v : Known). serves v r) was.1 ∙ serve) in
    let back_home : put_back s.homes m.1 ≡ set s.homes r (some (Some b)) = ap (put_back s.homes) carries in
    let number : k.number ≡ id = (o.moment.mailboxes.named id was.0).0 in (
      knows m.0 (W m.0.own),
      gives,
      tt,
      subst (λ (hs : List (Core.Option Parcel)). Rule n record {
        words = set s.words (r + 1) (word_of (full me));
        homes = hs;
        views = set s.views id (knows m.0 (W m.0.own));
      }) (sym back_home)
          (writes n s o id m.0 W r (word_of (full me)) (full id) (set s.homes r (some (Some b))) (put (slots_in s.homes) r (some (Some b))) here G.live
          (length-set s.homes r (some (Some b))) (sign_of_word (full me) ∙ ap full A.self) A.below (slot_put s.homes r (some (Some b)) A.home)
          (posts n o.known (signs_in n s.words) (slots_in s.homes) o.moment.mailboxes id was.0 (W k) r b A.below served_here refl refl refl refl refl refl)
          (Turns.posts n o.known (signs_in n s.words) (token_in s.words) o.moment.ring id was.0 (W k) r A.below
          (not_self n o.known (signs_in n s.words) (slots_in s.homes) o.moment.mailboxes id was.0 r A.below served_here)
          (ap (λ (x : Known). x.ended) was.1 ∙ G.runs) (ap (λ (x : Known). x.busy) was.1 ∙ works) (ap mail_of served_here)
          (ap (λ (j : ℕ). record (Rattle.post_board.specs.BoardRule.place_of k resting) {
            colour =
                cond (nat_lt j r) Rattle.ring_core.specs.declared.states.Colour.TheVariants.Black k.colour;
          }) number) refl)
          (same_halt n s o id m here G (W k) refl refl refl (λ u e. o.moment.halt.left id u was.0 e))),
      (
        sym (mailbox_there n s.words r A.below) ∙ served_here ∙ ap serving (sym (own_number n s o id m here G)),
        ap (λ (j : ℕ). (knows m.0 (after_post m.0.own j (r + 1) found b), rest m.1)) (sym back)
            ∙ ap (λ (x : Strings). (knows m.0 (after_post m.0.own (r + 1 - 1) (r + 1) found x), rest m.1)) (sym (ap front carries)),
      ),
    )

-- posting none
pub allows_refuse : (n slots id r me : ℕ) (m : SeatState) → Going m → m.0.own.number ≡ me
    → r < m.0.own.n → serves m.0.own r ≡ true → m.1 ≡ (r, None) ∷ rest m.1
    → Allows (Rule n) slots id m (r + 1) (λ _. word_of (emptied me)) (RefuseTells (step slots (r + 1) (word_of (emptied me)) 0 none) m)
allows_refuse n slots id r me m G mine bound serve carries s o wide here small =
    let was = o.seated id m.0 here G.live in
    let A = at_other n s o id m here G r me mine bound in
    let found : ℕ = get_or s.words (r + 1) 0 in
    let k : Known = o.known id in
    let back : r + 1 - 1 ≡ r = omega arith in
    let W : Known → Known = λ v. after_refusing v r (r + 1) found in
    let served_here : signs_in n s.words r ≡ serving id = o.moment.mailboxes.serving_is r id A.below was.0 (ap (λ (v : Known). serves v r) was.1 ∙ serve) in
    let back_home : put_back s.homes m.1 ≡ set s.homes r (some None) = ap (put_back s.homes) carries in (
      knows m.0 (W m.0.own),
      gives,
      tt,
      subst (λ (hs : List (Core.Option Parcel)). Rule n record {
        words = set s.words (r + 1) (word_of (emptied me));
        homes = hs;
        views = set s.views id (knows m.0 (W m.0.own));
      }) (sym back_home)
          (writes n s o id m.0 W r (word_of (emptied me)) (emptied id) (set s.homes r (some None)) (put (slots_in s.homes) r (some None)) here G.live
          (length-set s.homes r (some None)) (sign_of_word (emptied me) ∙ ap emptied A.self) A.below (slot_put s.homes r (some None) A.home)
          (refuses n o.known (signs_in n s.words) (slots_in s.homes) o.moment.mailboxes id was.0 (W k) r A.below served_here refl refl refl refl refl refl)
          (Turns.refuses n o.known (signs_in n s.words) (token_in s.words) o.moment.ring id was.0 (W k) r A.below
          (not_self n o.known (signs_in n s.words) (slots_in s.homes) o.moment.mailboxes id was.0 r A.below served_here)
          (ap (λ (x : Known). x.ended) was.1 ∙ G.runs) (ap mail_of served_here) refl refl)
          (same_halt n s o id m here G (W k) refl refl refl (λ u e. o.moment.halt.left id u was.0 e))),
      (
        sym (mailbox_there n s.words r A.below) ∙ served_here ∙ ap serving (sym (own_number n s o id m here G)),
        ap (λ (j : ℕ). (knows m.0 (after_refusing m.0.own j (r + 1) found), rest m.1)) (sym back),
      ),
    )

-- a batch is fetched from the own slot, by a swap of the own mailbox, which is full
pub allows_fetch : (n slots id r from : ℕ) (m : SeatState) → Going m → m.0.own.number ≡ r
    → m.0.own.own ≡ Filled from
    → Allows (Rule n) slots id m (r + 1) (λ _. word_of (fetching from)) (FetchTells (step slots (r + 1) (word_of (fetching from)) 0 none) m)
allows_fetch n slots id r from m G mine knows_full s o wide here small =
    let was = o.seated id m.0 here G.live in
    let found : ℕ = get_or s.words (r + 1) 0 in
    let k : Known = o.known id in
    let A = at_own n s o id m here G r mine in
    let back : r + 1 - 1 ≡ r = omega arith in
    let own_is : k.own ≡ Filled from = ap (λ (x : Known). x.own) was.1 ∙ knows_full in
    let away : (from < n) × (from ≢ id) = o.moment.mailboxes.away id was.0 from (ap asked_of own_is) in
    let full_here : signs_in n s.words id ≡ full from = subst (λ (x : OwnMailbox). OwnFits x (signs_in n s.words id)) own_is
    (o.moment.mailboxes.own id was.0) in
    let filled : (b : Strings) × (slots_in s.homes id ≡ some (Some b)) = slot_under n o.known (signs_in n s.words)
    (slots_in s.homes) o.moment.mailboxes id was.0 (full from) full_here in
    let b : Strings = filled.0 in
    let W : Known → Known = λ v. after_fetch v from (r + 1) found b in (
      knows m.0 (W m.0.own),
      takes r (Some b),
      there s.homes r none (some (Some b)) A.home (ap (slots_in s.homes) A.number ∙ filled.1),
      writes n s o id m.0 W r (word_of (fetching from)) (fetching from) (set s.homes r none) (put (slots_in s.homes) r none) here G.live
          (length-set s.homes r none) (sign_of_word (fetching from)) A.below (slot_put s.homes r none A.home)
          (subst (λ (j : ℕ). MailboxFacts n (put o.known id (W k)) (put (signs_in n s.words) j (fetching from)) (put (slots_in s.homes) j none)) (sym A.number)
          (fetches n o.known (signs_in n s.words) (slots_in s.homes) o.moment.mailboxes id was.0
          (W k) from b away.0 away.1 full_here filled.1 refl refl refl refl refl refl))
          (subst (λ (j : ℕ). RingFacts n (put o.known id (W k)) (put (signs_in n s.words) j (fetching from)) (token_in s.words)) (sym A.number)
          (Turns.fetches n o.known (signs_in n s.words) (token_in s.words) o.moment.ring id was.0 (W k) from away.0 (λ e. away.1 (sym e))
          (ap (λ (x : Known). x.ended) was.1 ∙ G.runs) full_here refl refl))
          (same_halt n s o id m here G (W k) refl refl refl (λ u e. absurd (cc))),
      (λ other e. let same : from ≡ other = (let p : Filled from ≡ Filled other = sym knows_full ∙ e in cc) in (
        sym A.found ∙ full_here ∙ ap full same,
        (
          b,
          ap (λ (j : ℕ). (knows m.0 (after_fetch m.0.own from (r + 1) found b), (j, Some b) ∷ m.1)) (sym back)
              ∙ ap (λ (x : ℕ). (knows m.0 (after_fetch m.0.own x (r + 1) found b), (r + 1 - 1, Some b) ∷ m.1)) same,
        ),
      )),
    )

-- and comes to rest, the slot given back empty
pub allows_rest : (n slots id r from : ℕ) (m : SeatState) → Going m → m.0.own.number ≡ r → m.0.own.own ≡ Getting from
    → m.1 ≡ (r, None) ∷ rest m.1
    → Allows (Rule n) slots id m (r + 1) (λ _. word_of resting) (RestTells (step slots (r + 1) (word_of resting) 0 none) m)
allows_rest n slots id r from m G mine gets carries s o wide here small =
    let was = o.seated id m.0 here G.live in
    let found : ℕ = get_or s.words (r + 1) 0 in
    let k : Known = o.known id in
    let A = at_own n s o id m here G r mine in
    let fetching_here : signs_in n s.words id ≡ fetching from = subst (λ (x : OwnMailbox). OwnFits x (signs_in n s.words id))
    (ap (λ (x : Known). x.own) was.1 ∙ gets) (o.moment.mailboxes.own id was.0) in
    let W : Known → Known = λ v. after_rest v (r + 1) found v.tried in
    let back_home : put_back s.homes m.1 ≡ set s.homes r (some None) = ap (put_back s.homes) carries in (
      knows m.0 (W m.0.own),
      gives,
      tt,
      subst (λ (hs : List (Core.Option Parcel)). Rule n record {
        words = set s.words (r + 1) (word_of resting);
        homes = hs;
        views = set s.views id (knows m.0 (W m.0.own));
      }) (sym back_home)
          (writes n s o id m.0 W r (word_of resting) resting (set s.homes r (some None)) (put (slots_in s.homes) r (some None)) here G.live
          (length-set s.homes r (some None)) (sign_of_word resting) A.below (slot_put s.homes r (some None) A.home)
          (subst (λ (j : ℕ). MailboxFacts n (put o.known id (W k)) (put (signs_in n s.words) j resting) (put (slots_in s.homes) j (some None))) (sym A.number)
          (rests n o.known (signs_in n s.words) (slots_in s.homes) o.moment.mailboxes id was.0 (W k) from fetching_here refl refl refl refl refl refl))
          (subst (λ (j : ℕ). RingFacts n (put o.known id (W k)) (put (signs_in n s.words) j resting) (token_in s.words)) (sym A.number)
          (Turns.calm n o.known (signs_in n s.words) (token_in s.words) o.moment.ring id was.0 (W k) id resting refl (sym (ap mail_of fetching_here))
          (o.moment.ring.here id was.0)))
          (same_halt n s o id m here G (W k) refl refl refl (λ u e. absurd (cc)))),
      (
        (λ other e. sym A.found ∙ fetching_here
            ∙ (let p : Getting from ≡ Getting other = sym gets ∙ e in cc)),
        refl,
      ),
    )

-- the own mailbox, which reads empty, comes to rest
pub allows_empty : (n slots id r from : ℕ) (m : SeatState) → Going m → m.0.own.number ≡ r
    → m.0.own.own ≡ Emptied from
    → Allows (Rule n) slots id m (r + 1) (λ _. word_of resting) (RestEmptyTells (step slots (r + 1) (word_of resting) 0 none) m)
allows_empty n slots id r from m G mine knows_empty s o wide here small =
    let was = o.seated id m.0 here G.live in
    let found : ℕ = get_or s.words (r + 1) 0 in
    let k : Known = o.known id in
    let A = at_own n s o id m here G r mine in
    let own_is : k.own ≡ Emptied from = ap (λ (x : Known). x.own) was.1 ∙ knows_empty in
    let away : (from < n) × (from ≢ id) = o.moment.mailboxes.away id was.0 from (ap asked_of own_is) in
    let empty_here : signs_in n s.words id ≡ emptied from = subst (λ (x : OwnMailbox). OwnFits x (signs_in n s.words id)) own_is
    (o.moment.mailboxes.own id was.0) in
    let W : Known → Known = λ v. after_rest v (r + 1) found true in (
      knows m.0 (W m.0.own),
      keeps,
      tt,
      own_rests n s o id m here G r A (λ j e. cc)
          (slot_under n o.known (signs_in n s.words) (slots_in s.homes) o.moment.mailboxes id was.0 (emptied from) empty_here)
          (Turns.empties n o.known (signs_in n s.words) (token_in s.words) o.moment.ring id was.0 (W k) from away.0 (λ e. away.1 (sym e))
          (ap (λ (x : Known). x.ended) was.1 ∙ G.runs) empty_here refl refl),
      (
        (λ other e. sym A.found ∙ empty_here
            ∙ (let p : Emptied from ≡ Emptied other = sym knows_empty ∙ e in cc)),
        refl,
      ),
    )

-- a look at another mailbox
pub allows_scan : (n slots id i : ℕ) (m : SeatState) → Going m
    → Allows (Rule n) slots id m i (λ w. w) (ScanTells (step slots i 0 0 none) m)
allows_scan n slots id i m G s o wide here small =
    let r : ℕ = get_or s.words i 0 in
    let k : Known = o.known id in
    let S = o.moment in
    let f : ℕ → Known = put o.known id k in
    let same : o.known ≡ f = sym (put_self o.known id) in
    dite (ℕ_discrete r (word_of (asking m.0.own.number)))
    (λ hit. (
      m.0,
      keeps,
      tt,
      reads n s o id m.0 (λ v. v) i here G.live
          (subst (λ (g : ℕ → Known). MailboxFacts n g (signs_in n s.words) (slots_in s.homes)) same S.mailboxes)
          (subst (λ (g : ℕ → Known). RingFacts n g (signs_in n s.words) (token_in s.words)) same S.ring)
          (subst (λ (g : ℕ → Known). HaltFacts n g (halt_in n s.words) (stops_in n s.words)) same S.halt),
      ((λ e. refl), (λ ne. absurd (ne hit))),
    ))
    (λ miss. (
      knows m.0 (noted m.0.own i r r),
      keeps,
      tt,
      only_reads n s o id m here G i,
      ((λ e. absurd (miss e)), (λ ne. refl)),
    ))
