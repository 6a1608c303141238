-- A step at the seat of id, the mailbox of r and the slot of r keeps the facts of mailboxes.
use Rattle.post_board.proofs.Prelude.{◌≡◌, ℕ, ◌<◌, ◌≢◌, refl, sym, subst, ap, ◌∙◌, true, false, [], ◌++◌, length, get_or, dite, ℕ_discrete, put, put_here}
use Rattle.post_board.proofs.Prelude.{put_elsewhere, put_all, put_same, Sign, serving, Parcel, MailboxFacts, serves, given, taken, OwnFits, SlotFits, Away}
use Rattle.post_board.proofs.Prelude.{on_way, Known}
use mathlib.Core.Option as Core
use Rattle.post_board.proofs.Puts.{put_self}

-- what is owed for such a step
pub record Owed (n : ℕ) (known : ℕ → Known) (signs : ℕ → Sign) (slot : ℕ → Core.Option Parcel) (id : ℕ) (w : Known) (r : ℕ) (d : Sign)
    (y : Core.Option Parcel) : Type 0 where
  pub named : (w.number ≡ (known id).number) × (w.n ≡ (known id).n)
  pub sized : (length w.serves ≡ length (known id).serves) × (length w.given ≡ length (known id).given) × (length w.taken ≡ length (known id).taken)
  pub own_there : OwnFits (put known id w r).own d
  pub own_here : r ≢ id → OwnFits w.own (signs id)
  pub away : Away n id w.own
  pub held : SlotFits d y
  pub served : (k : ℕ) → k < n → d ≡ serving k → serves (put known id w k) r ≡ true
  pub serving_is : (k : ℕ) → k < n → serves (put known id w k) r ≡ true → d ≡ serving k
  pub serves_else : (a : ℕ) → a ≢ r → serves w a ≡ serves (known id) a
  pub pair : (i : ℕ) → i < n → taken (put known id w r) i ++ on_way d i y ≡ given (put known id w i) r
  pub taken_else : r ≢ id → (i : ℕ) → taken w i ≡ taken (known id) i
  pub given_else : (j : ℕ) → j ≢ r → given w j ≡ given (known id) j

pub moved : (n : ℕ) (known : ℕ → Known) (signs : ℕ → Sign) (slot : ℕ → Core.Option Parcel) (id : ℕ) (w : Known) (r : ℕ) (d : Sign) (y : Core.Option Parcel)
    → id < n → r < n
    → MailboxFacts n known signs slot → Owed n known signs slot id w r d y → MailboxFacts n (put known id w) (put signs r d) (put slot r y)
moved n known signs slot id w r d y me inside F O =
    let serves_else : (k a : ℕ) → a ≢ r → serves (put known id w k) a ≡ serves (known k) a = λ k a ne. put_same (λ j v. serves v a) known id w
    (O.serves_else a ne) k in
    record {
      named = λ k h. put_all (λ j v. (v.number ≡ j) × (v.n ≡ n)) known id w k (O.named.0 ∙ (F.named id me).0, O.named.1 ∙ (F.named id me).1)
          (λ ne. F.named k h);
      sized = λ k h. put_all (λ j v. (length v.serves ≡ n) × (length v.given ≡ n) × (length v.taken ≡ n)) known id w k
          (O.sized.0 ∙ (F.sized id me).0, O.sized.1 ∙ (F.sized id me).1, O.sized.2 ∙ (F.sized id me).2) (λ ne. F.sized k h);
      own = λ k h. put_all (λ j x. OwnFits (put known id w j).own x) signs r d k O.own_there
          (λ ne. dite (ℕ_discrete k id)
          (λ e. subst (λ (j : ℕ). OwnFits (put known id w j).own (signs j)) (sym e)
          (subst (λ (v : Known). OwnFits v.own (signs id)) (sym (put_here known id w)) (O.own_here (λ q. ne (e ∙ sym q)))))
          (λ ne2. subst (λ (v : Known). OwnFits v.own (signs k)) (sym (put_elsewhere known id w k ne2)) (F.own k h)));
      away = λ k h. put_all (λ j v. Away n j v.own) known id w k O.away (λ ne. F.away k h);
      held = λ k h. dite (ℕ_discrete k r)
          (λ e. subst (λ (j : ℕ). SlotFits (put signs r d j) (put slot r y j)) (sym e)
          (subst (λ (x : Sign). SlotFits x (put slot r y r)) (sym (put_here signs r d)) (subst (SlotFits d) (sym (put_here slot r y)) O.held)))
          (λ ne. subst (λ (x : Sign). SlotFits x (put slot r y k)) (sym (put_elsewhere signs r d k ne))
          (subst (SlotFits (signs k)) (sym (put_elsewhere slot r y k ne)) (F.held k h)));
      served = λ a k h hk. put_all (λ j x. j < n → x ≡ serving k → serves (put known id w k) j ≡ true) signs r d a
          (λ hj e. O.served k hk e)
          (λ ne hj e. serves_else k a ne ∙ F.served a k h hk e) h;
      serving_is = λ a k h hk. put_all (λ j x. serves (put known id w k) j ≡ true → x ≡ serving k) signs r d a
          (O.serving_is k hk)
          (λ ne e. F.serving_is a k h hk (sym (serves_else k a ne) ∙ e));
      paired = λ i j hi hj. dite (ℕ_discrete j r)
          (λ e. subst (λ (k : ℕ). taken (put known id w k) i ++ on_way (put signs r d k) i (put slot r y k) ≡ given (put known id w i) k) (sym e)
          (subst (λ (x : Sign). taken (put known id w r) i ++ on_way x i (put slot r y r) ≡ given (put known id w i) r) (sym (put_here signs r d))
          (subst (λ (z : Core.Option Parcel). taken (put known id w r) i ++ on_way d i z ≡ given (put known id w i) r) (sym (put_here slot r y))
          (O.pair i hi))))
          (λ ne.
          let same_taken : taken (put known id w j) i ≡ taken (known j) i = dite (ℕ_discrete j id)
          (λ e. ap (λ (k : ℕ). taken (put known id w k) i) e ∙ ap (λ (v : Known). taken v i) (put_here known id w)
          ∙ O.taken_else (λ q. ne (e ∙ sym q)) i ∙ ap (λ (k : ℕ). taken (known k) i) (sym e))
          (λ ne2. ap (λ (v : Known). taken v i) (put_elsewhere known id w j ne2)) in
          ap (λ xs. xs ++ on_way (put signs r d j) i (put slot r y j)) same_taken
          ∙ ap (λ xs. taken (known j) i ++ xs) (ap (λ x. on_way x i (put slot r y j)) (put_elsewhere signs r d j ne)
          ∙ ap (on_way (signs j) i) (put_elsewhere slot r y j ne))
          ∙ F.paired i j hi hj ∙ sym (put_same (λ k v. given v j) known id w (O.given_else j ne) i));
    }

-- a step that leaves mailboxes and slots as they are, and of what the seat knows the lists
pub unmoved : (n : ℕ) (known : ℕ → Known) (signs : ℕ → Sign) (slot : ℕ → Core.Option Parcel) (id : ℕ) (w : Known) → id < n → MailboxFacts n known signs slot
    → w.number ≡ (known id).number → w.n ≡ (known id).n → w.serves ≡ (known id).serves → w.given ≡ (known id).given → w.taken ≡ (known id).taken
    → OwnFits w.own (signs id) → Away n id w.own
    → MailboxFacts n (put known id w) signs slot
unmoved n known signs slot id w me F number size serves_same given_same taken_same fits away =
    let here : put known id w id ≡ w = put_here known id w in
    let facts : MailboxFacts n (put known id w) (put signs id (signs id)) (put slot id (slot id)) = moved n known signs slot id w id (signs id)
    (slot id) me me F record {
      named = (number, size);
      sized = (ap length serves_same, ap length given_same, ap length taken_same);
      own_there = subst (λ (v : Known). OwnFits v.own (signs id)) (sym here) fits;
      own_here = λ ne. absurd (ne refl);
      away = away;
      held = F.held id me;
      served = λ k hk e. put_same (λ j v. serves v id) known id w (ap (λ xs. get_or xs id false) serves_same) k ∙ F.served id k me hk e;
      serving_is = λ k hk e. F.serving_is id k me hk (sym (put_same (λ j v. serves v id) known id w (ap (λ xs. get_or xs id false) serves_same) k) ∙ e);
      serves_else = λ a ne. ap (λ xs. get_or xs a false) serves_same;
      pair = λ i hi. ap (λ xs. xs ++ on_way (signs id) i (slot id)) (put_same (λ k v. taken v i) known id w (ap (λ xs. get_or xs i []) taken_same) id)
          ∙ F.paired i id hi me
          ∙ sym (put_same (λ k v. given v id) known id w (ap (λ xs. get_or xs id []) given_same) i);
      taken_else = λ ne i. ap (λ xs. get_or xs i []) taken_same;
      given_else = λ j ne. ap (λ xs. get_or xs j []) given_same;
    } in
    subst (λ (f : ℕ → Sign). MailboxFacts n (put known id w) f slot) (put_self signs id)
    (subst (λ (f : ℕ → Core.Option Parcel). MailboxFacts n (put known id w) (put signs id (signs id)) f) (put_self slot id) facts)
