-- Each kind of step on a mailbox keeps the facts of mailboxes.
use Rattle.post_board.proofs.Prelude.{◌≡◌, ℕ, ◌/◌, ◌%◌, ◌==◌, ◌<◌, ◌≢◌, inl, inr, ⊎_elim, ◌⊎◌, refl, sym, subst, ap, ◌∙◌, arith, Bool, true, false, cond, []}
use Rattle.post_board.proofs.Prelude.{◌∷◌, ◌++◌, length, get_or, set, get_or-set_same, get_or-set_other, length-set, eq-eqb, ne_eqb, Some, None, append-nil}
use Rattle.post_board.proofs.Prelude.{none, some, dite, ℕ_discrete, put, put_here, put_elsewhere, put_same, Strings, Sign, resting, asking, serving, full}
use Rattle.post_board.proofs.Prelude.{fetching, emptied, sign_by, word_of, Parcel, MailboxFacts, serves, given, taken, OpenFits, OwnFits, SlotFits, Away}
use Rattle.post_board.proofs.Prelude.{asked_of, on_way, learn, Known, OwnMailbox, Resting, Open, Left, Getting}
use mathlib.Core.Option as Core
use Rattle.post_board.specs.Words.{sign}
use Rattle.post_board.proofs.Puts.{put_self}
use Rattle.post_board.proofs.FactLemmas.{moved}

no_other : (b c d e : Bool) (r v : ℕ) → cond b (serving r) (cond c (full r) (cond d (fetching r) (cond e (emptied r) resting))) ≡ asking v → ⊥
no_other true c d e r v h = cc
no_other false true d e r v h = cc
no_other false false true e r v h = cc
no_other false false false true r v h = cc
no_other false false false false r v h = cc

by_kind : (kind r v : ℕ) → sign_by kind r ≡ asking v → (kind ≡ 1) × (r ≡ v)
by_kind kind r v h = dite (ℕ_discrete kind 1)
    (λ e. (
      e,
      (let here : asking r ≡ asking v = ap (λ (b : Bool). cond b (asking r)
          (cond (kind == 2) (serving r) (cond (kind == 3) (full r) (cond (kind == 4) (fetching r) (cond (kind == 5) (emptied r) resting)))))
          (sym (eq-eqb kind 1 e)) ∙ h in cc),
    ))
    (λ ne. absurd (no_other (kind == 2) (kind == 3) (kind == 4) (kind == 5) r v
    (ap (λ (b : Bool). cond b (asking r) (cond (kind == 2) (serving r)
    (cond (kind == 3) (full r) (cond (kind == 4) (fetching r) (cond (kind == 5) (emptied r) resting))))) (sym (ne_eqb kind 1 ne)) ∙ h)))

-- one word alone asks this rank
pub one_word : (w v : ℕ) → sign w ≡ asking v → w ≡ word_of (asking v)
unfolding sign
one_word w v h = let p = by_kind (w % 8) (w / 8) v h in let a : w % 8 ≡ 1 = p.0 in let b : w / 8 ≡ v = p.1 in omega arith

bare : (d : Sign) (i : ℕ) → on_way d i (some None) ≡ []
bare resting i = refl
bare _ i = refl

empty_handed : (d : Sign) (i : ℕ) → on_way d i none ≡ []
empty_handed resting i = refl
empty_handed _ i = refl

-- no batch is on the way in a mailbox that is not full
pub not_full : (d : Sign) (i : ℕ) (z : Core.Option Parcel) → ((k : ℕ) → d ≢ full k) → on_way d i z ≡ []
not_full (full k) i z ne = absurd (ne k refl)
not_full _ i z ne = refl

-- the rank that a sign names
abbrev pub name : Sign → ℕ
name resting = 0
name (asking r) = r
name (serving r) = r
name (full r) = r
name (fetching r) = r
name (emptied r) = r

open_name : (v : ℕ) (d : Sign) → OpenFits v d → name d ≡ v
open_name v d e = ⊎_elim (λ a. ap name a) (λ o. ⊎_elim (λ a. ap name a) (λ p. ⊎_elim (λ a. ap name a) (λ a. ap name a) p) o) e

open_never_rests : (v : ℕ) (d : Sign) → OpenFits v d → d ≢ resting
open_never_rests v d e rests = ⊎_elim (λ a. cc) (λ o. ⊎_elim (λ a. cc) (λ p. ⊎_elim (λ a. cc) (λ a. cc) p) o) e

-- an own mailbox that names i belongs to a request to i
named : (o : OwnMailbox) (d : Sign) (i : ℕ) → OwnFits o d → OpenFits i d → asked_of o ≡ Some i
named Resting d i e q = absurd (open_never_rests i d q e)
named (Open v) d i e q = ap Some (sym (open_name v d e) ∙ open_name i d q)
named (Left v) d i e q = ap Some (sym (open_name v d e) ∙ open_name i d q)
named _ d i e q = ap Some (sym (ap name e) ∙ open_name i d q)

open_rank : (v i : ℕ) (d : Sign) → OpenFits v d → (d ≡ asking i) ⊎ (d ≡ serving i) → v ≡ i
open_rank v i d e q = sym (open_name v d e) ∙ ⊎_elim (λ a. ap name a) (λ a. ap name a) q

-- an own mailbox that asks i, or that i serves, is one whose request to i is open
open_is : (o : OwnMailbox) (i : ℕ) (d : Sign) → (d ≡ asking i) ⊎ (d ≡ serving i) → OwnFits o d → (o ≡ Open i) ⊎ (o ≡ Left i)
open_is (Open v) i d q e = inl (ap Open (open_rank v i d e q))
open_is (Left v) i d q e = inr (ap Left (open_rank v i d e q))
open_is _ i d q e = absurd (⊎_elim (λ a. cc) (λ a. cc) q)

-- so i can take it up, fill it or refuse it
stays_open : (o : OwnMailbox) (i : ℕ) (d d' : Sign) → (d ≡ asking i) ⊎ (d ≡ serving i) → OwnFits o d → OpenFits i d' → OwnFits o d'
stays_open o i d d' q e f =
    let back : (x : OwnMailbox) → o ≡ x → OwnFits x d' → OwnFits o d' = λ x p. subst (λ (y : OwnMailbox). OwnFits y d') (sym p) in
    ⊎_elim (λ p. back (Open i) p f) (λ p. back (Left i) p f) (open_is o i d q e)

served_open : (o : OwnMailbox) (i : ℕ) → OwnFits o (serving i) → asked_of o ≡ Some i
served_open o i e = named o (serving i) i e (inr (inl refl))

asked_own : (o : OwnMailbox) (i : ℕ) → OwnFits o (asking i) → OwnFits o (serving i)
asked_own o i e = stays_open o i (asking i) (serving i) (inl refl) e (inr (inl refl))

served_own : (o : OwnMailbox) (i : ℕ) → OwnFits o (serving i) → OwnFits o (full i)
served_own o i e = stays_open o i (serving i) (full i) (inr refl) e (inr (inr (inl refl)))

refused_own : (o : OwnMailbox) (i : ℕ) → OwnFits o (serving i) → OwnFits o (emptied i)
refused_own o i e = stays_open o i (serving i) (emptied i) (inr refl) e (inr (inr (inr refl)))

pub learns : (o : OwnMailbox) (d : Sign) → OwnFits o d → OwnFits (learn o d) d
learns o (full i) fits = refl
learns o (emptied i) fits = refl
learns o _ fits = fits

-- what is learnt names the same rank
pub learns_away : (o : OwnMailbox) (d : Sign) → OwnFits o d → (v : ℕ) → asked_of (learn o d) ≡ Some v → asked_of o ≡ Some v
learns_away o (full i) fits v e = named o (full i) i fits (inr (inr (inl refl))) ∙ e
learns_away o (emptied i) fits v e = named o (emptied i) i fits (inr (inr (inr refl))) ∙ e
learns_away o _ fits v e = e

module _ (n : ℕ) (known : ℕ → Known) (signs : ℕ → Sign) (slot : ℕ → Core.Option Parcel) (F : MailboxFacts n known signs slot) (id : ℕ) (me : id < n) where
  -- no rank serves itself
  pub not_self : (r : ℕ) → r < n → signs r ≡ serving id → id ≢ r
  not_self r h was same = (let fits : OwnFits (known id).own (serving id) = subst (OwnFits (known id).own) (ap signs same ∙ was) (F.own id me) in
      (F.away id me id (served_open (known id).own id fits)).1 refl)

  -- the own mailbox changes, while no batch is on the way to it
  pub own_moves : (w : Known) (d : Sign) → w.number ≡ (known id).number → w.n ≡ (known id).n → w.serves ≡ (known id).serves → w.given ≡ (known id).given
      → w.taken ≡ (known id).taken
      → OwnFits w.own d → Away n id w.own → slot id ≡ some None → SlotFits d (some None) → ((k : ℕ) → signs id ≢ serving k) → ((k : ℕ) → d ≢ serving k)
      → MailboxFacts n (put known id w) (put signs id d) slot
  own_moves w d number size serves_same given_same taken_same fits away bare_slot held unserved unserved' =
      subst (λ (f : ℕ → Core.Option Parcel). MailboxFacts n (put known id w) (put signs id d) f) (put_self slot id)
      (moved n known signs slot id w id d (slot id) me me F record {
        named = (number, size);
        sized = (ap length serves_same, ap length given_same, ap length taken_same);
        own_there = subst (λ (v : Known). OwnFits v.own d) (sym (put_here known id w)) fits;
        own_here = λ ne. absurd (ne refl);
        away = away;
        held = subst (SlotFits d) (sym bare_slot) held;
        served = λ k hk e. absurd (unserved' k e);
        serving_is = λ k hk e. absurd (unserved k (F.serving_is id k me hk
            (sym (put_same (λ j v. serves v id) known id w (ap (λ xs. get_or xs id false) serves_same) k) ∙ e)));
        serves_else = λ a ne. ap (λ xs. get_or xs a false) serves_same;
        pair = λ i hi. ap (λ z. taken (put known id w id) i ++ on_way d i z) bare_slot ∙ ap (λ xs. taken (put known id w id) i ++ xs)
            (bare d i ∙ sym (bare (signs id) i) ∙ ap (on_way (signs id) i) (sym bare_slot))
            ∙ ap (λ xs. xs ++ on_way (signs id) i (slot id)) (put_same (λ k v. taken v i) known id w (ap (λ xs. get_or xs i []) taken_same) id)
            ∙ F.paired i id hi me
            ∙ sym (put_same (λ k v. given v id) known id w (ap (λ xs. get_or xs id []) given_same) i);
        taken_else = λ ne i. ap (λ xs. get_or xs i []) taken_same;
        given_else = λ j ne. ap (λ xs. get_or xs j []) given_same;
      })

  -- the own slot, under a sign
  pub slot_under : (d : Sign) → signs id ≡ d → SlotFits d (slot id)
  slot_under d e = subst (λ (x : Sign). SlotFits x (slot id)) e (F.held id me)

  -- the mailbox of r, which asked this rank, is taken up
  pub takes_up : (w : Known) (r : ℕ) → r < n → id ≢ r → signs r ≡ asking id → w.number ≡ (known id).number → w.n ≡ (known id).n
      → w.serves ≡ set (known id).serves r true → w.given ≡ (known id).given → w.taken ≡ (known id).taken → w.own ≡ (known id).own
      → MailboxFacts n (put known id w) (put signs r (serving id)) (put slot r none)
  takes_up w r inside ne was number size serves_set given_same taken_same own_same =
      let long : r < length (known id).serves = (let e = (F.sized id me).0 in omega arith) in
      let bare_slot : slot r ≡ some None = subst (λ (x : Sign). SlotFits x (slot r)) was (F.held r inside) in
      let apart : r ≢ id = λ e. ne (sym e) in
      moved n known signs slot id w r (serving id) none me inside F record {
        named = (number, size);
        sized = (ap length serves_set ∙ length-set (known id).serves r true, ap length given_same, ap length taken_same);
        own_there = subst (λ (v : Known). OwnFits v.own (serving id)) (sym (put_elsewhere known id w r apart))
            (asked_own (known r).own id (subst (OwnFits (known r).own) was (F.own r inside)));
        own_here = λ q. subst (λ (o : OwnMailbox). OwnFits o (signs id)) (sym own_same) (F.own id me);
        away = subst (Away n id) (sym own_same) (F.away id me);
        held = refl;
        served = λ k hk e. (let same : k ≡ id = cc in subst (λ (j : ℕ). serves (put known id w j) r ≡ true) (sym same)
            (ap (λ (v : Known). serves v r) (put_here known id w) ∙ ap (λ xs. get_or xs r false) serves_set
            ∙ get_or-set_same (known id).serves r true false long));
        serving_is = λ k hk. dite (ℕ_discrete k id) (λ e h. ap serving (sym e))
            (λ other h. (let old : serves (known k) r ≡ true = ap (λ (v : Known). serves v r) (sym (put_elsewhere known id w k other)) ∙ h in
            let there : signs r ≡ serving k = F.serving_is r k inside hk old in absurd (cc)));
        serves_else = λ a q. ap (λ xs. get_or xs a false) serves_set ∙ get_or-set_other (known id).serves r a true false q;
        pair = λ i hi. ap (λ xs. taken (put known id w r) i ++ xs) (sym (bare (signs r) i) ∙ ap (on_way (signs r) i) (sym bare_slot))
            ∙ ap (λ xs. xs ++ on_way (signs r) i (slot r)) (put_same (λ k v. taken v i) known id w (ap (λ xs. get_or xs i []) taken_same) r)
            ∙ F.paired i r hi inside
            ∙ sym (put_same (λ k v. given v r) known id w (ap (λ xs. get_or xs r []) given_same) i);
        taken_else = λ q i. ap (λ xs. get_or xs i []) taken_same;
        given_else = λ j q. ap (λ xs. get_or xs j []) given_same;
      }

  -- what the mailbox of r, which this rank serves, loses of the serving
  unserve : (w : Known) (r : ℕ) → r < n → w.serves ≡ set (known id).serves r false → (k : ℕ) → k < n → signs r ≡ serving id
      → serves (put known id w k) r ≡ true → ⊥
  unserve w r inside serves_set k hk was h =
      let long : r < length (known id).serves = (let e = (F.sized id me).0 in omega arith) in
      dite (ℕ_discrete k id)
      (λ e. (let no_more : serves (put known id w k) r ≡ false = ap (λ (j : ℕ). serves (put known id w j) r) e
      ∙ ap (λ (v : Known). serves v r) (put_here known id w) ∙ ap (λ xs. get_or xs r false) serves_set
      ∙ get_or-set_same (known id).serves r false false long in cc))
      (λ other. (let old : serves (known k) r ≡ true = ap (λ (v : Known). serves v r) (sym (put_elsewhere known id w k other)) ∙ h in
      let there : signs r ≡ serving k = F.serving_is r k inside hk old in let same : k ≡ id = cc in other same))

  -- and holds a refusal
  pub refuses : (w : Known) (r : ℕ) → r < n → signs r ≡ serving id → w.number ≡ (known id).number → w.n ≡ (known id).n
      → w.serves ≡ set (known id).serves r false → w.given ≡ (known id).given → w.taken ≡ (known id).taken → w.own ≡ (known id).own
      → MailboxFacts n (put known id w) (put signs r (emptied id)) (put slot r (some None))
  refuses w r inside was number size serves_set given_same taken_same own_same =
      let ne : id ≢ r = not_self r inside was in
      let away_slot : slot r ≡ none = subst (λ (x : Sign). SlotFits x (slot r)) was (F.held r inside) in
      let apart : r ≢ id = λ e. ne (sym e) in
      moved n known signs slot id w r (emptied id) (some None) me inside F record {
        named = (number, size);
        sized = (ap length serves_set ∙ length-set (known id).serves r false, ap length given_same, ap length taken_same);
        own_there = subst (λ (v : Known). OwnFits v.own (emptied id)) (sym (put_elsewhere known id w r apart))
            (refused_own (known r).own id (subst (OwnFits (known r).own) was (F.own r inside)));
        own_here = λ q. subst (λ (o : OwnMailbox). OwnFits o (signs id)) (sym own_same) (F.own id me);
        away = subst (Away n id) (sym own_same) (F.away id me);
        held = refl;
        served = λ k hk e. absurd (cc);
        serving_is = λ k hk h. absurd (unserve w r inside serves_set k hk was h);
        serves_else = λ a q. ap (λ xs. get_or xs a false) serves_set ∙ get_or-set_other (known id).serves r a false false q;
        pair = λ i hi. ap (λ xs. taken (put known id w r) i ++ xs) (sym (empty_handed (signs r) i) ∙ ap (on_way (signs r) i) (sym away_slot))
            ∙ ap (λ xs. xs ++ on_way (signs r) i (slot r)) (put_same (λ k v. taken v i) known id w (ap (λ xs. get_or xs i []) taken_same) r)
            ∙ F.paired i r hi inside
            ∙ sym (put_same (λ k v. given v r) known id w (ap (λ xs. get_or xs r []) given_same) i);
        taken_else = λ q i. ap (λ xs. get_or xs i []) taken_same;
        given_else = λ j q. ap (λ xs. get_or xs j []) given_same;
      }

  -- and holds a batch
  pub posts : (w : Known) (r : ℕ) (b : Strings) → r < n → signs r ≡ serving id → w.number ≡ (known id).number → w.n ≡ (known id).n
      → w.serves ≡ set (known id).serves r false
      → w.given ≡ set (known id).given r (given (known id) r ++ b ∷ []) → w.taken ≡ (known id).taken → w.own ≡ (known id).own
      → MailboxFacts n (put known id w) (put signs r (full id)) (put slot r (some (Some b)))
  posts w r b inside was number size serves_set given_set taken_same own_same =
      let ne : id ≢ r = not_self r inside was in
      let away_slot : slot r ≡ none = subst (λ (x : Sign). SlotFits x (slot r)) was (F.held r inside) in
      let apart : r ≢ id = λ e. ne (sym e) in
      let wide : r < length (known id).given = (let e = (F.sized id me).1 in omega arith) in
      let old : (i : ℕ) → i < n → taken (put known id w r) i ≡ given (known i) r = λ i hi. put_same (λ k v. taken v i) known id w
      (ap (λ xs. get_or xs i []) taken_same) r
      ∙ sym (append-nil (taken (known r) i)) ∙ ap (λ xs. taken (known r) i ++ xs)
      (sym (empty_handed (signs r) i) ∙ ap (on_way (signs r) i) (sym away_slot)) ∙ F.paired i r hi inside in
      moved n known signs slot id w r (full id) (some (Some b)) me inside F record {
        named = (number, size);
        sized = (
          ap length serves_set ∙ length-set (known id).serves r false,
          ap length given_set
              ∙ length-set (known id).given r (given (known id) r ++ b ∷ []),
          ap length taken_same,
        );
        own_there = subst (λ (v : Known). OwnFits v.own (full id)) (sym (put_elsewhere known id w r apart))
            (served_own (known r).own id (subst (OwnFits (known r).own) was (F.own r inside)));
        own_here = λ q. subst (λ (o : OwnMailbox). OwnFits o (signs id)) (sym own_same) (F.own id me);
        away = subst (Away n id) (sym own_same) (F.away id me);
        held = (b, refl);
        served = λ k hk e. absurd (cc);
        serving_is = λ k hk h. absurd (unserve w r inside serves_set k hk was h);
        serves_else = λ a q. ap (λ xs. get_or xs a false) serves_set ∙ get_or-set_other (known id).serves r a false false q;
        pair = λ i hi. dite (ℕ_discrete i id)
            (λ e. ap (λ (t : Bool). taken (put known id w r) i ++ cond t (b ∷ []) []) (eq-eqb id i (sym e))
            ∙ ap (λ xs. xs ++ b ∷ []) (old i hi ∙ ap (λ (k : ℕ). given (known k) r) e)
            ∙ sym (get_or-set_same (known id).given r (given (known id) r ++ b ∷ []) [] wide) ∙ ap (λ xs. get_or xs r []) (sym given_set)
            ∙ ap (λ (v : Known). given v r) (sym (put_here known id w)) ∙ ap (λ (k : ℕ). given (put known id w k) r) (sym e))
            (λ q. ap (λ (t : Bool). taken (put known id w r) i ++ cond t (b ∷ []) []) (ne_eqb id i (λ e. q (sym e)))
            ∙ append-nil (taken (put known id w r) i) ∙ old i hi ∙ ap (λ (v : Known). given v r) (sym (put_elsewhere known id w i q)));
        taken_else = λ q i. ap (λ xs. get_or xs i []) taken_same;
        given_else = λ j q. ap (λ xs. get_or xs j []) given_set ∙ get_or-set_other (known id).given r j (given (known id) r ++ b ∷ []) [] q;
      }

  -- the own mailbox is fetched from
  pub fetches : (w : Known) (from : ℕ) (b : Strings) → from < n → from ≢ id → signs id ≡ full from → slot id ≡ some (Some b) → w.number ≡ (known id).number
      → w.n ≡ (known id).n → w.serves ≡ (known id).serves → w.given ≡ (known id).given
      → w.taken ≡ set (known id).taken from (taken (known id) from ++ b ∷ []) → w.own ≡ Getting from
      → MailboxFacts n (put known id w) (put signs id (fetching from)) (put slot id none)
  fetches w from b bound apart was filled number size serves_same given_same taken_set own_is =
      let wide : from < length (known id).taken = (let e = (F.sized id me).2 in omega arith) in
      moved n known signs slot id w id (fetching from) none me me F record {
        named = (number, size);
        sized = (ap length serves_same, ap length given_same, ap length taken_set ∙ length-set (known id).taken from (taken (known id) from ++ b ∷ []));
        own_there = subst (λ (v : Known). OwnFits v.own (fetching from)) (sym (put_here known id w))
            (subst (λ (o : OwnMailbox). OwnFits o (fetching from)) (sym own_is) refl);
        own_here = λ ne. absurd (ne refl);
        away = subst (Away n id) (sym own_is) (λ v e. (let same : v ≡ from = cc in (subst (λ (k : ℕ). k < n) (sym same) bound, λ q. apart (sym same ∙ q))));
        held = refl;
        served = λ k hk e. absurd (cc);
        serving_is = λ k hk h. absurd (let old : signs id ≡ serving k = F.serving_is id k me hk
            (sym (put_same (λ j v. serves v id) known id w (ap (λ xs. get_or xs id false) serves_same) k) ∙ h) in cc);
        serves_else = λ a q. ap (λ xs. get_or xs a false) serves_same;
        pair = λ i hi. append-nil (taken (put known id w id) i) ∙ ap (λ (v : Known). taken v i) (put_here known id w) ∙ ap (λ xs. get_or xs i []) taken_set
            ∙ dite (ℕ_discrete i from)
            (λ e. ap (λ (k : ℕ). get_or (set (known id).taken from (taken (known id) from ++ b ∷ [])) k []) e
            ∙ get_or-set_same (known id).taken from (taken (known id) from ++ b ∷ []) [] wide
            ∙ ap (λ (t : Bool). taken (known id) from ++ cond t (b ∷ []) []) (sym (eq-eqb from i (sym e)))
            ∙ ap (λ (k : ℕ). taken (known id) k ++ cond (from == i) (b ∷ []) []) (sym e))
            (λ q. get_or-set_other (known id).taken from i (taken (known id) from ++ b ∷ []) [] q ∙ sym (append-nil (taken (known id) i))
            ∙ ap (λ (t : Bool). taken (known id) i ++ cond t (b ∷ []) []) (sym (ne_eqb from i (λ e. q (sym e)))))
            ∙ ap (λ (z : Core.Option Parcel). taken (known id) i ++ on_way (full from) i z) (sym filled)
            ∙ ap (λ (x : Sign). taken (known id) i ++ on_way x i (slot id)) (sym was)
            ∙ F.paired i id hi me ∙ sym (put_same (λ k v. given v id) known id w (ap (λ xs. get_or xs id []) given_same) i);
        taken_else = λ ne. absurd (ne refl);
        given_else = λ j q. ap (λ xs. get_or xs j []) given_same;
      }

  -- and comes to rest
  pub rests : (w : Known) (from : ℕ) → signs id ≡ fetching from → w.number ≡ (known id).number → w.n ≡ (known id).n → w.serves ≡ (known id).serves
      → w.given ≡ (known id).given → w.taken ≡ (known id).taken → w.own ≡ Resting
      → MailboxFacts n (put known id w) (put signs id resting) (put slot id (some None))
  rests w from was number size serves_same given_same taken_same own_is =
      let away_slot : slot id ≡ none = slot_under (fetching from) was in
      moved n known signs slot id w id resting (some None) me me F record {
        named = (number, size);
        sized = (ap length serves_same, ap length given_same, ap length taken_same);
        own_there = subst (λ (v : Known). OwnFits v.own resting) (sym (put_here known id w)) (subst (λ (o : OwnMailbox). OwnFits o resting) (sym own_is) refl);
        own_here = λ ne. absurd (ne refl);
        away = subst (Away n id) (sym own_is) (λ v e. cc);
        held = refl;
        served = λ k hk e. absurd (cc);
        serving_is = λ k hk h. absurd (let old : signs id ≡ serving k = F.serving_is id k me hk
            (sym (put_same (λ j v. serves v id) known id w (ap (λ xs. get_or xs id false) serves_same) k) ∙ h) in cc);
        serves_else = λ a q. ap (λ xs. get_or xs a false) serves_same;
        pair = λ i hi. ap (λ xs. taken (put known id w id) i ++ xs) (sym (empty_handed (signs id) i) ∙ ap (on_way (signs id) i) (sym away_slot))
            ∙ ap (λ xs. xs ++ on_way (signs id) i (slot id)) (put_same (λ k v. taken v i) known id w (ap (λ xs. get_or xs i []) taken_same) id)
            ∙ F.paired i id hi me
            ∙ sym (put_same (λ k v. given v id) known id w (ap (λ xs. get_or xs id []) given_same) i);
        taken_else = λ ne. absurd (ne refl);
        given_else = λ j q. ap (λ xs. get_or xs j []) given_same;
      }
