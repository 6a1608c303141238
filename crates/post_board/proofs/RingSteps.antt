-- The steps on the ring: load ring, pass, restart, conclude.
use Rattle.post_board.proofs.Prelude.{◌≡◌, ℕ, ◌-◌, ◌<◌, ◌⊎◌, inl, inr, ⊎_elim, refl, sym, subst, ap, ◌∙◌, arith, Bool, true, false, cond, get_or, set}
use Rattle.post_board.proofs.Prelude.{length-set, ◌==◌, Option, Some, None, eqb-true, get_elem?, step, keeps, Allows, none, some, darker, is_at, put, Colour}
use Rattle.post_board.proofs.Prelude.{White, Black, Token, At, Over, HereFits, Sign, resting, token_read, word_of_token, TableState, MailboxFacts, RingFacts}
use Rattle.post_board.proofs.Prelude.{Rule, signs_in, slots_in, token_in, OwnFits, Going, SeatState, noted, knows, knowing, heard_at, RingTells, after_pass}
use Rattle.post_board.proofs.Prelude.{PassTells, after_restart, RestartTells, after_conclude, ConcludeTells, Known, OwnMailbox, Resting}
use Rattle.post_board.proofs.WordLemmas.{token_of_word}
use Rattle.post_board.proofs.RingLemmas.{calm_all, sees_over, passes, restarts, concludes, over_quiet, many}
use Rattle.post_board.proofs.Frames.{frame, mail_stays, at_ring, reads}
use Rattle.post_board.proofs.GoingSteps.{same_halt}

-- what the ring tells this seat, which has not ended
hears : (n : ℕ) (known : ℕ → Known) (signs : ℕ → Sign) (token : Token) → RingFacts n known signs token → (id : ℕ) → id < n → (known id).ended ≡ false
    → (known id).number ≡ id → (word found left : ℕ)
    → RingFacts n (put known id (heard_at (noted (known id) word found left) token)) signs token
hears n known signs (At p c) T id me live number word found left =
    calm_all n known signs (At p c) T id me (heard_at (noted (known id) word found left) (At p c)) refl (here (p == (known id).number) refl)
  where
    here : (b : Bool) → (p == (known id).number) ≡ b → HereFits (cond b (Some c) None) id (At p c)
    here true e = ap (λ (k : ℕ). At k c) (eqb-true p (known id).number e ∙ number)
    here false e = tt
hears n known signs Over T id me live number word found left =
    sees_over n known signs Over T id me (heard_at (noted (known id) word found left) Over) live refl refl refl

keeps_facts : (v : Known) (t : Token) → ((heard_at v t).number ≡ v.number) × ((heard_at v t).n ≡ v.n) × ((heard_at v t).serves ≡ v.serves)
    × ((heard_at v t).given ≡ v.given) × ((heard_at v t).taken ≡ v.taken) × ((heard_at v t).own ≡ v.own)
keeps_facts v (At p c) = (refl, refl, refl, refl, refl, refl)
keeps_facts v Over = (refl, refl, refl, refl, refl, refl)

keeps_halts : (v : Known) (t : Token) → ((heard_at v t).halted ≡ v.halted) × ((heard_at v t).knows_halt ≡ v.knows_halt) × ((heard_at v t).stopped ≡ v.stopped)
keeps_halts v (At p c) = (refl, refl, refl)
keeps_halts v Over = (refl, refl, refl)

pub allows_hear : (n slots id : ℕ) (m : SeatState) → Going m
    → Allows (Rule n) slots id m 0 (λ r. r) (RingTells (step slots 0 0 0 none) m)
allows_hear n slots id m G s o wide here small =
    let was = o.seated id m.0 here G.live in
    let r : ℕ = get_or s.words 0 0 in
    let t : Token = token_read r in
    let W : Known → Known = λ v. heard_at (noted v 0 r r) t in
    let k : Known = o.known id in
    let number : k.number ≡ id = (o.moment.mailboxes.named id was.0).0 in
    let f = keeps_facts (noted k 0 r r) t in
    let h = keeps_halts (noted k 0 r r) t in (
      knows m.0 (W m.0.own),
      keeps,
      tt,
      reads n s o id m.0 W 0 here G.live
          (mail_stays n s o id was.0 (W k) (f.0, f.1, f.2, f.3, f.4, f.5))
          (hears n o.known (signs_in n s.words) t o.moment.ring id was.0 (ap (λ (v : Known). v.ended) was.1 ∙ G.runs) number 0 r r)
          (same_halt n s o id m here G (W k) h.0 h.1 h.2 (λ v e. o.moment.halt.left id v was.0 (sym f.5 ∙ e))),
      (
        refl,
        (λ e. ap (λ (v : Known). v.busy) (sym was.1) ∙ (over_quiet n o.known (signs_in n s.words) t o.moment.ring e id was.0).0),
        (λ a b. subst (λ (j : ℕ). 1 < j) (sym (o.moment.mailboxes.named id was.0).1 ∙ ap (λ (v : Known). v.n) was.1)
            (many n o.known (signs_in n s.words) t o.moment.ring id was.0 (ap (is_at t) (sym number ∙ ap (λ (v : Known). v.number) was.1) ∙ a) b)),
      ),
    )

-- what a seat knows of the token is so
token_here : (n : ℕ) (known : ℕ → Known) (signs : ℕ → Sign) (token : Token) → RingFacts n known signs token → (id : ℕ) → id < n → (c : Colour)
    → (known id).here ≡ Some c → token ≡ At id c
token_here n known signs token T id me c e = subst (λ (x : Option Colour). HereFits x id token) e (T.here id me)

-- a rank with no open request has its mailbox at rest
at_rest : (n : ℕ) (known : ℕ → Known) (signs : ℕ → Sign) (slot : ℕ → mathlib.Core.Option.Option Rattle.post_board.specs.BoardRule.Parcel)
    → MailboxFacts n known signs slot → (id : ℕ) → id < n → (known id).own ≡ Resting → signs id ≡ resting
at_rest n known signs slot F id me e = subst (λ (x : OwnMailbox). OwnFits x (signs id)) e (F.own id me)

-- one swap of the ring by a seat that has the token here: what the seat is to know afterwards, and that the picture stays sound
swaps : (n slots id : ℕ) (m : SeatState) (new : ℕ) (t : Token) (W : ℕ → Known → Known) (then : ℕ → SeatState → Type 0) → Going m → token_read new ≡ t
    → ((found : ℕ) (v : Known) → ((W found v).number ≡ v.number) × ((W found v).n ≡ v.n) × ((W found v).serves ≡ v.serves) × ((W found v).given ≡ v.given)
    × ((W found v).taken ≡ v.taken) × ((W found v).own ≡ v.own)
    × ((W found v).halted ≡ v.halted) × ((W found v).knows_halt ≡ v.knows_halt) × ((W found v).stopped ≡ v.stopped))
    → ((s : TableState) (o : Rule n s) (found : ℕ) → get_elem? s.views id ≡ some m.0 → id < n → o.known id ≡ m.0.own
    → RingFacts n (put o.known id (W found (o.known id))) (signs_in n s.words) t)
    → ((s : TableState) (o : Rule n s) → id < n → o.known id ≡ m.0.own → then (get_or s.words 0 0) (knowing m (W (get_or s.words 0 0) m.0.own)))
    → Allows (Rule n) slots id m 0 (λ _. new) then
swaps n slots id m new t W then G reads same turns tells s o wide here small =
    let was = o.seated id m.0 here G.live in
    let r : ℕ = get_or s.words 0 0 in
    let k : Known = o.known id in
    let f = same r k in (
      knows m.0 (W r m.0.own),
      keeps,
      tt,
      frame n s o id m.0 (W r) (set s.words 0 new) s.homes here G.live (length-set s.words 0 new) refl
          (at_ring n (put o.known id (W r k)) s.words s.homes o.wide new t reads
          (mail_stays n s o id was.0 (W r k) (f.0, f.1, f.2, f.3, f.4, f.5))
          (turns s o r here was.0 was.1)
          (same_halt n s o id m here G (W r k) f.6 f.7 f.8 (λ v e. o.moment.halt.left id v was.0 (sym f.5 ∙ e)))),
      tells s o was.0 was.1,
    )

knew_here : (n : ℕ) (s : TableState) (o : Rule n s) (id : ℕ) (v : Known) → id < n → o.known id ≡ v → (c : Colour) → v.here ≡ Some c
    → token_in s.words ≡ At v.number c
knew_here n s o id v me was c e = token_here n o.known (signs_in n s.words) (token_in s.words) o.moment.ring id me c (ap (λ (x : Known). x.here) was ∙ e)
    ∙ ap (λ (k : ℕ). At k c) (sym (o.moment.mailboxes.named id me).0 ∙ ap (λ (x : Known). x.number) was)

pub allows_pass : (n slots id : ℕ) (m : SeatState) (c : Colour) (new : ℕ) → Going m
    → m.0.own.own ≡ Resting → m.0.own.tried ≡ true → m.0.own.here ≡ Some c → 0 < m.0.own.number
    → new ≡ word_of_token (At (m.0.own.number - 1) (darker m.0.own.colour c)) → Allows (Rule n) slots id m 0 (λ _. new) (PassTells (step slots 0 new 0 none) m)
allows_pass n slots id m c new G rests tried holds above coded =
    swaps n slots id m new (At (m.0.own.number - 1) (darker m.0.own.colour c)) (λ found v. after_pass v found new)
    (PassTells (step slots 0 new 0 none) m) G (ap token_read coded ∙ token_of_word (At (m.0.own.number - 1) (darker m.0.own.colour c)))
    (λ found v. (refl, refl, refl, refl, refl, refl, refl, refl, refl))
    (λ s o found here me was.
    let number : m.0.own.number ≡ id = ap (λ (v : Known). v.number) (sym was) ∙ (o.moment.mailboxes.named id me).0 in
    let low : id - 1 ≡ m.0.own.number - 1 = ap (λ (k : ℕ). k - 1) (sym number) in
    subst (λ (u : Token). RingFacts n (put o.known id (after_pass (o.known id) found new)) (signs_in n s.words) u)
    (ap (λ (v : Known). At (id - 1) (darker v.colour c)) was ∙ ap (λ (k : ℕ). At k (darker m.0.own.colour c)) low)
    (passes n o.known (signs_in n s.words) (token_in s.words) o.moment.ring id me (after_pass (o.known id) found new) c (omega arith)
    (ap (λ (v : Known). v.ended) was ∙ G.runs) (ap (λ (v : Known). v.tried) was ∙ tried)
    (at_rest n o.known (signs_in n s.words) (slots_in s.homes) o.moment.mailboxes id me (ap (λ (v : Known). v.own) was ∙ rests))
    (token_here n o.known (signs_in n s.words) (token_in s.words) o.moment.ring id me c (ap (λ (v : Known). v.here) was ∙ holds)) refl refl))
    (λ s o me was. ((λ c2 e. knew_here n s o id m.0.own me was c2 e), refl))

pub allows_restart : (n slots id : ℕ) (m : SeatState) (c : Colour) (new : ℕ) → Going m
    → m.0.own.own ≡ Resting → (m.0.own.n ≡ 1) ⊎ (m.0.own.tried ≡ true) → m.0.own.here ≡ Some c → m.0.own.number ≡ 0
    → darker m.0.own.colour c ≡ Black → new ≡ word_of_token (At (m.0.own.n - 1) White)
    → Allows (Rule n) slots id m 0 (λ _. new) (RestartTells (step slots 0 new 0 none) m)
allows_restart n slots id m c new G rests tried holds first black coded =
    swaps n slots id m new (At (m.0.own.n - 1) White) (λ found v. after_restart v found new) (RestartTells (step slots 0 new 0 none) m) G
    (ap token_read coded ∙ token_of_word (At (m.0.own.n - 1) White))
    (λ found v. (refl, refl, refl, refl, refl, refl, refl, refl, refl))
    (λ s o found here me was.
    let number : id ≡ 0 = sym (o.moment.mailboxes.named id me).0 ∙ ap (λ (v : Known). v.number) was ∙ first in
    let size : n ≡ m.0.own.n = sym (o.moment.mailboxes.named id me).1 ∙ ap (λ (v : Known). v.n) was in
    subst (λ (u : Token). RingFacts n (put o.known id (after_restart (o.known id) found new)) (signs_in n s.words) u) (ap (λ (k : ℕ). At (k - 1) White) size)
    (restarts n o.known (signs_in n s.words) (token_in s.words) o.moment.ring id me (after_restart (o.known id) found new) c number
    (ap (λ (v : Known). v.ended) was ∙ G.runs)
    (⊎_elim (λ e. inl (size ∙ e)) (λ e. inr (ap (λ (v : Known). v.tried) was ∙ e)) tried)
    (at_rest n o.known (signs_in n s.words) (slots_in s.homes) o.moment.mailboxes id me (ap (λ (v : Known). v.own) was ∙ rests))
    (token_here n o.known (signs_in n s.words) (token_in s.words) o.moment.ring id me c (ap (λ (v : Known). v.here) was ∙ holds))
    (ap (λ (v : Known). darker v.colour c) was ∙ black) refl refl))
    (λ s o me was. ((λ c2 e. knew_here n s o id m.0.own me was c2 e), refl))

pub allows_conclude : (n slots id : ℕ) (m : SeatState) (new : ℕ) → Going m
    → m.0.own.own ≡ Resting → (m.0.own.n ≡ 1) ⊎ (m.0.own.tried ≡ true) → m.0.own.here ≡ Some White → m.0.own.number ≡ 0
    → m.0.own.colour ≡ White → new ≡ word_of_token Over → Allows (Rule n) slots id m 0 (λ _. new) (ConcludeTells (step slots 0 new 0 none) m)
allows_conclude n slots id m new G rests tried holds first white coded =
    swaps n slots id m new Over (λ found v. after_conclude v found new) (ConcludeTells (step slots 0 new 0 none) m) G
    (ap token_read coded ∙ token_of_word Over)
    (λ found v. (refl, refl, refl, refl, refl, refl, refl, refl, refl))
    (λ s o found here me was.
    let number : id ≡ 0 = sym (o.moment.mailboxes.named id me).0 ∙ ap (λ (v : Known). v.number) was ∙ first in
    let size : n ≡ m.0.own.n = sym (o.moment.mailboxes.named id me).1 ∙ ap (λ (v : Known). v.n) was in
    concludes n o.known (signs_in n s.words) (token_in s.words) o.moment.ring id me (after_conclude (o.known id) found new) number
    (ap (λ (v : Known). v.ended) was ∙ G.runs)
    (⊎_elim (λ e. inl (size ∙ e)) (λ e. inr (ap (λ (v : Known). v.tried) was ∙ e)) tried)
    (at_rest n o.known (signs_in n s.words) (slots_in s.homes) o.moment.mailboxes id me (ap (λ (v : Known). v.own) was ∙ rests))
    (token_here n o.known (signs_in n s.words) (token_in s.words) o.moment.ring id me White (ap (λ (v : Known). v.here) was ∙ holds))
    (ap (λ (v : Known). v.colour) was ∙ white) refl refl)
    (λ s o me was. ((λ c2 e. knew_here n s o id m.0.own me was c2 e), refl))
