-- What a call leaves, from what its steps told.
use Rattle.post_board.proofs.Prelude.{◌≡◌, ℕ, ◌+◌, ◌<◌, ◌≢◌, ◌⊎◌, inl, inr, ⊎_elim, arith, ◌*◌, ◌/◌, ◌%◌, ◌==◌, Bool, true, false, cond, ne_eqb, eq-eqb, suc}
use Rattle.post_board.proofs.Prelude.{refl, sym, subst, ap, ◌∙◌, List, [], ◌∷◌, ◌++◌, append_assoc, length, length-set, map, get_or, set, get_or-set_same}
use Rattle.post_board.proofs.Prelude.{get_or-set_other, sum_by, zero, deque_capacity, ◌≤◌, Option, Some, None, Colour, Token, At, token_of, victim_of, Adds}
use Rattle.post_board.proofs.Prelude.{One, Two, Three, Step, TokenSteps, others_below, NoneAsked, Sign, resting, asking, serving, full, fetching, emptied}
use Rattle.post_board.proofs.Prelude.{sign_by, word_of, token_read, word_of_token, Reading, shown_known, Known, OwnMailbox, Open, Filled, Board, BoardSeat}
use Rattle.post_board.proofs.Prelude.{asked_of, OpenFits, OwnFits, SeatState, knows, knowing, noted, learn, own_by, one_if, Fronted, View, rest, sum_by-set}
use Rattle.post_board.proofs.Prelude.{sum_by-cons, Contains, map-append, All-nil, All-cons, All-append, dite, ℕ_discrete}
use Rattle.post_board.specs.BoardSeats.{IsSeat}
use Rattle.post_board.specs.Words.{sign}
use Rattle.post_board.proofs.WordLemmas.{sign_of_word, token_of_word}
use Rattle.post_board.proofs.MailboxLemmas.{name, one_word}

abbrev pub reading : ℕ → ℕ → ℕ → Reading
reading word found left = record { word = word; found = found; left = left }

pub one_more : (rs rs' : List Reading) (P : Reading → Type 0) (x : Reading) → P x → rs' ≡ rs ++ x ∷ [] → Adds (Some rs) (One P) (Some rs')
one_more rs rs' P x p e = (x ∷ [], (x, p, refl), ap Some e)

pub two_more : (rs rs' : List Reading) (P Q : Reading → Type 0) (x y : Reading) → P x → Q y → rs' ≡ (rs ++ x ∷ []) ++ y ∷ []
    → Adds (Some rs) (Two P Q) (Some rs')
two_more rs rs' P Q x y p q e = (x ∷ y ∷ [], (x, y, p, q, refl), ap Some (e ∙ append_assoc rs (x ∷ []) (y ∷ [])))

pub three_more : (rs rs' : List Reading) (P Q R : Reading → Type 0) (x y z : Reading) → P x → Q y → R z → rs' ≡ ((rs ++ x ∷ []) ++ y ∷ []) ++ z ∷ []
    → Adds (Some rs) (Three P Q R) (Some rs')
three_more rs rs' P Q R x y z p q r e = (
  x ∷ y ∷ z ∷ [],
  (x, y, z, p, q, r, refl),
  ap Some (e ∙ append_assoc (rs ++ x ∷ []) (y ∷ []) (z ∷ []) ∙ append_assoc rs (x ∷ []) (y ∷ z ∷ [])),
)

pub token_here : (v : Known) (token : Colour) → v.here ≡ Some token → token_of (shown_known v) ≡ token
token_here v token h = ap (λ (o : Option Colour). token_of (record (shown_known v) { here = o })) h

-- a swap of the ring by the rank me, which has the token
pub ring_moved : (rs rs' : List Reading) (v : Known) (me found left : ℕ) (token : Colour) (t : Token) → v.number ≡ me → v.here ≡ Some token
    → token_read found ≡ At me token → left ≡ word_of_token t → rs' ≡ rs ++ reading 0 found left ∷ []
    → Adds (Some rs) (TokenSteps (At v.number (token_of (shown_known v))) t) (Some rs')
ring_moved rs rs' v me found left token t number here was is e =
    one_more rs rs' (Step 0 (λ w. token_read w ≡ At v.number (token_of (shown_known v))) (λ w. token_read w ≡ t)) (reading 0 found left)
    (refl, was ∙ ap (λ (k : ℕ). At k token) (sym number) ∙ ap (At v.number) (sym (token_here v token here)), ap token_read is ∙ token_of_word t) e

-- whom an open request went to
pub victim_here : (v : Known) (k : ℕ) → v.own ≡ Open k → victim_of (shown_known v) ≡ k
victim_here v k e = ap (λ (o : OwnMailbox). victim_of (record (shown_known v) { asked = asked_of o })) e

-- the kind and the rank of a sign that is not at rest
abbrev code : Sign → ℕ
code resting = 0
code (asking r) = 1
code (serving r) = 2
code (full r) = 3
code (fetching r) = 4
code (emptied r) = 5

abbrev Coded : ℕ → ℕ → Sign → Type 0
Coded kind r d = (d ≡ resting) ⊎ ((kind ≡ code d) × (r ≡ name d))

by_kind : (kind r : ℕ) (d : Sign) → sign_by kind r ≡ d → Coded kind r d
by_kind kind r d h =
    let P : Sign → Type 0 = λ x. (x ≡ resting) ⊎ ((kind ≡ code x) × (r ≡ name x)) in
    dite (ℕ_discrete kind 1) (λ e. let g : sign_by kind r ≡ asking r = ap (λ (k : ℕ). sign_by k r) e in subst P (sym g ∙ h) (inr (e, refl)))
    (λ n1. dite (ℕ_discrete kind 2) (λ e. let g : sign_by kind r ≡ serving r = ap (λ (k : ℕ). sign_by k r) e in subst P (sym g ∙ h) (inr (e, refl)))
    (λ n2. dite (ℕ_discrete kind 3) (λ e. let g : sign_by kind r ≡ full r = ap (λ (k : ℕ). sign_by k r) e in subst P (sym g ∙ h) (inr (e, refl)))
    (λ n3. dite (ℕ_discrete kind 4) (λ e. let g : sign_by kind r ≡ fetching r = ap (λ (k : ℕ). sign_by k r) e in subst P (sym g ∙ h) (inr (e, refl)))
    (λ n4. dite (ℕ_discrete kind 5) (λ e. let g : sign_by kind r ≡ emptied r = ap (λ (k : ℕ). sign_by k r) e in subst P (sym g ∙ h) (inr (e, refl)))
    (λ n5.
    let g : sign_by kind r ≡ resting =
    ap (λ (b : Bool). cond b (asking r) (cond (kind == 2) (serving r)
    (cond (kind == 3) (full r) (cond (kind == 4) (fetching r) (cond (kind == 5) (emptied r) resting))))) (ne_eqb kind 1 n1)
    ∙ ap (λ (b : Bool). cond b (serving r) (cond (kind == 3) (full r) (cond (kind == 4) (fetching r) (cond (kind == 5) (emptied r) resting))))
    (ne_eqb kind 2 n2)
    ∙ ap (λ (b : Bool). cond b (full r) (cond (kind == 4) (fetching r) (cond (kind == 5) (emptied r) resting))) (ne_eqb kind 3 n3)
    ∙ ap (λ (b : Bool). cond b (fetching r) (cond (kind == 5) (emptied r) resting)) (ne_eqb kind 4 n4)
    ∙ ap (λ (b : Bool). cond b (emptied r) resting) (ne_eqb kind 5 n5) in
    inl (sym h ∙ g))))))

pub full_word : (w v : ℕ) → sign w ≡ full v → w ≡ 8 * v + 3
unfolding sign
full_word w v h = ⊎_elim (λ e. absurd (cc)) (λ p. let a : w % 8 ≡ 3 = p.0 in let b : w / 8 ≡ v = p.1 in omega arith) (by_kind (w % 8) (w / 8) (full v) h)

pub empty_word : (w v : ℕ) → sign w ≡ emptied v → w ≡ 8 * v + 5
unfolding sign
empty_word w v h = ⊎_elim (λ e. absurd (cc)) (λ p. let a : w % 8 ≡ 5 = p.0 in let b : w / 8 ≡ v = p.1 in omega arith) (by_kind (w % 8) (w / 8) (emptied v) h)

-- an open request that is neither answered nor refused
pub pending : (o : OwnMailbox) (w v : ℕ) → o ≡ Open v → OwnFits o (sign w) → w ≢ 8 * v + 3 → w ≢ 8 * v + 5 → (sign w ≡ asking v) ⊎ (sign w ≡ serving v)
pending o w v is fits full_not empty_not = let f : OpenFits v (sign w) = subst (λ (x : OwnMailbox). OwnFits x (sign w)) is fits in
    ⊎_elim (λ a. inl a) (λ b. ⊎_elim (λ c. inr c) (λ d. ⊎_elim (λ e. absurd (full_not (full_word w v e))) (λ e. absurd (empty_not (empty_word w v e))) d) b) f

pub learn_full : (o : OwnMailbox) (w v : ℕ) → w ≡ 8 * v + 3 → learn o (sign w) ≡ Filled v
learn_full o w v e = ap (learn o) (ap sign e ∙ sign_of_word (full v))

pub learn_none : (o : OwnMailbox) (d : Sign) (v : ℕ) → (d ≡ asking v) ⊎ (d ≡ serving v) → learn o d ≡ o
learn_none o d v p = ⊎_elim (λ e. ap (learn o) e) (λ e. ap (learn o) e) p

-- what a call leaves of a seat, which comes to know k and serves the same ranks
pub record Keeps (s s' : BoardSeat) (k : Known) : Type 0 where
  pub table : s'.seat.table_id ≡ s.seat.table_id
  pub me : s'.seat.me ≡ knowing s.seat.me k
  pub number : s'.number ≡ s.number
  pub size : s'.n ≡ s.n
  pub held : s'.held ≡ s.held
  pub same_number : k.number ≡ s.seat.me.0.own.number
  pub same_size : k.n ≡ s.seat.me.0.own.n
  pub same_serves : k.serves ≡ s.seat.me.0.own.serves
  pub colour : k.colour ≡ s'.colour
  pub here : k.here ≡ s'.here
  pub own : k.own ≡ own_by s'.asked
  pub ended : k.ended ≡ s'.ended

-- the first k ranks were looked at, and none asked this one
pub record Looked (me k : ℕ) (before now : SeatState) : Type 0 where
  pub steps : List Reading
  pub none : NoneAsked me k steps
  pub is : now ≡ knowing before (record before.0.own { readings = before.0.own.readings ++ steps })

others_more : (me r : ℕ) → r ≢ me → others_below me (r + 1) ≡ others_below me r ++ (r + 1) ∷ []
others_more me r ne = ap (others_below me) (let e : r + 1 ≡ suc r = omega arith in e)
    ∙ ap (λ (b : Bool). cond b (others_below me r) (others_below me r ++ (r + 1) ∷ [])) (ne_eqb r me ne)

others_same : (me r : ℕ) → r ≡ me → others_below me (r + 1) ≡ others_below me r
others_same me r e = ap (others_below me) (let p : r + 1 ≡ suc r = omega arith in p)
    ∙ ap (λ (b : Bool). cond b (others_below me r) (others_below me r ++ (r + 1) ∷ [])) (eq-eqb r me e)

pub looked_more : (me r found : ℕ) (before now after : SeatState) → r ≢ me → found ≢ word_of (asking me)
    → after ≡ knowing now (noted now.0.own (r + 1) found found) → Looked me r before now → Looked me (r + 1) before after
looked_more me r found before now after ne other step L =
    let x : Reading = reading (r + 1) found found in
    let P : Reading → Type 0 = λ y. (y.left ≡ y.found) × (sign y.found ≢ asking me) in
    record {
      steps = L.steps ++ x ∷ [];
      none = (
        map-append (λ y. y.word) L.steps (x ∷ []) ∙ ap (λ ws. ws ++ (r + 1) ∷ []) L.none.0 ∙ sym (others_more me r ne),
        All-append P L.steps (x ∷ []) L.none.1 (All-cons P x [] (refl, λ e. other (one_word found me e)) (All-nil P)),
      );
      is = step ∙ ap (λ (m : SeatState). knowing m (noted m.0.own (r + 1) found found)) L.is
          ∙ ap (λ (rs : List Reading). knowing before (record before.0.own { readings = rs })) (append_assoc before.0.own.readings L.steps (x ∷ []));
    }

pub looked_self : (me r : ℕ) (before now : SeatState) → r ≡ me → Looked me r before now → Looked me (r + 1) before now
looked_self me r before now e L = record { steps = L.steps; none = (L.none.0 ∙ sym (others_same me r e), L.none.1); is = L.is }

pub served_more : (xs : List Bool) (r : ℕ) → r < length xs → get_or xs r false ≡ false → sum_by one_if (set xs r true) ≡ sum_by one_if xs + 1
served_more xs r h e = let s : sum_by one_if (set xs r true) + one_if (get_or xs r false) ≡ sum_by one_if xs + 1 = sum_by-set one_if xs r true false h in
    let z : one_if (get_or xs r false) ≡ 0 = ap one_if e in omega arith

pub in_list : (xs : List Bool) (r : ℕ) → get_or xs r false ≡ true → r < length xs
in_list [] r e = cc
in_list (x ∷ xs) zero e = omega arith
in_list (x ∷ xs) (suc r) e = let h = in_list xs r e in omega arith

pub served_fewer : (xs : List Bool) (r : ℕ) → get_or xs r false ≡ true → sum_by one_if (set xs r false) + 1 ≡ sum_by one_if xs
served_fewer xs r e = let s : sum_by one_if (set xs r false) + one_if (get_or xs r false) ≡ sum_by one_if xs + 0 = sum_by-set one_if xs r false false
    (in_list xs r e) in let z : one_if (get_or xs r false) ≡ 1 = ap one_if e in omega arith

at_most_one : (b : Bool) → one_if b ≤ 1
at_most_one true = omega arith
at_most_one false = omega arith

served_bound : (xs : List Bool) → sum_by one_if xs ≤ length xs
served_bound [] = omega arith
served_bound (x ∷ xs) = let h = served_bound xs in let g = at_most_one x in let s : sum_by one_if (x ∷ xs) ≡ one_if x + sum_by one_if xs =
    sum_by-cons one_if x xs in omega arith

-- there is room for a rank that is not served
pub room_for : (xs : List Bool) (r : ℕ) → r < length xs → get_or xs r false ≡ false → sum_by one_if xs < length xs
room_for xs r h e = let a = served_more xs r h e in let b = served_bound (set xs r true) in let c = length-set xs r true in omega arith

-- who serves nobody holds nothing
pub serves_none : (xs : List Bool) → ((r : ℕ) → get_or xs r false ≡ false) → sum_by one_if xs ≡ 0
serves_none [] none = refl
serves_none (x ∷ xs) none = let here : x ≡ false = none 0 in let e : one_if x ≡ 0 = ap one_if here in let h = serves_none xs (λ r. none (suc r)) in
    let s : sum_by one_if (x ∷ xs) ≡ one_if x + sum_by one_if xs = sum_by-cons one_if x xs in omega arith

-- what a call leaves of a seat whose slot `to` had come to the front (s1): it comes to know k, and serves that rank no more
pub record Answered (s s1 s' : BoardSeat) (k : Known) (to : ℕ) : Type 0 where
  pub fronted : Fronted s to s1
  pub table : s'.seat.table_id ≡ s1.seat.table_id
  pub view : s'.seat.me.0 ≡ knows s1.seat.me.0 k
  pub slots : s'.seat.me.1 ≡ rest s1.seat.me.1
  pub number : s'.number ≡ s1.number
  pub size : s'.n ≡ s1.n
  pub held : s'.held ≡ s1.held
  pub same_number : k.number ≡ s.seat.me.0.own.number
  pub same_size : k.n ≡ s.seat.me.0.own.n
  pub serves_less : k.serves ≡ set s.seat.me.0.own.serves to false
  pub colour : k.colour ≡ s'.colour
  pub here : k.here ≡ s'.here
  pub own : k.own ≡ own_by s'.asked
  pub ended : k.ended ≡ s'.ended

-- such a seat is still one of the board's
pub answered_one : (b : Board) (s s1 s' : BoardSeat) (k : Known) (to : ℕ) → IsSeat b s → get_or s.seat.me.0.own.serves to false ≡ true
    → Answered s s1 s' k to → IsSeat b s'
answered_one b s s1 s' k to S serve A =
    let F = A.fronted in
    let v : Known = s.seat.me.0.own in
    let sums = served_fewer v.serves to serve in
    record {
      table = A.table ∙ F.table ∙ S.table;
      number = ap (λ (x : View). x.own.number) A.view ∙ A.same_number ∙ S.number ∙ sym (A.number ∙ F.same.0);
      sized = ap (λ (x : View). x.own.n) A.view ∙ A.same_size ∙ S.sized;
      n = A.size ∙ F.same.1 ∙ S.n;
      inside = subst (λ (j : ℕ). j < b.n) (sym (A.number ∙ F.same.0)) S.inside;
      live = ap (λ (x : View). x.live) A.view ∙ ap (λ (x : View). x.live) F.view ∙ S.live;
      alone = ap (λ (x : View). x.kept) A.view ∙ ap (λ (x : View). x.kept) F.view ∙ S.alone;
      wide = ap (λ (x : View). length x.own.serves) A.view ∙ ap length A.serves_less ∙ length-set v.serves to false ∙ S.wide;
      colour = ap (λ (x : View). x.own.colour) A.view ∙ A.colour;
      here = ap (λ (x : View). x.own.here) A.view ∙ A.here;
      own = ap (λ (x : View). x.own.own) A.view ∙ A.own;
      ended = ap (λ (x : View). x.own.ended) A.view ∙ A.ended;
      room = subst (λ h. b.n ≤ deque_capacity h) (sym A.held) (subst (λ (x : ℕ). b.n ≤ x) (sym F.room) S.room);
      count = (let e : length s'.held.items ≡ length s1.held.items = ap (λ h. length h.items) A.held in
          let c : sum_by one_if s'.seat.me.0.own.serves ≡ sum_by one_if (set v.serves to false) =
          ap (λ (x : View). sum_by one_if x.own.serves) A.view ∙ ap (sum_by one_if) A.serves_less in
          let f = F.count in let g = S.count in omega arith);
      held = A.slots ∙ ap rest F.slots ∙ ap (λ h. map (λ r. (r, None)) h.items) (sym A.held);
      holds = λ r e. subst (λ h. Contains h.items r) (sym A.held)
          (let now : get_or (set v.serves to false) r false ≡ true =
          ap (λ xs. get_or xs r false) (sym A.serves_less) ∙ ap (λ (x : View). get_or x.own.serves r false) (sym A.view) ∙ e in
          let ne : r ≢ to = λ same. (let gone : get_or (set v.serves to false) r false ≡ false =
          ap (λ (j : ℕ). get_or (set v.serves to false) j false) same ∙ get_or-set_same v.serves to false false (in_list v.serves to serve) in cc) in
          F.others r ne (sym (get_or-set_other v.serves to r false false ne) ∙ now));
    }
