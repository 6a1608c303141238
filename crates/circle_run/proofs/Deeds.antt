-- A deed that is legal in what is told is a legal event of the world, and leaves the world of what is told afterwards.
use Rattle.circle_run.proofs.Prelude.{◌≡◌, ℕ, ◌+◌, ◌-◌, ◌<◌, ◌^◌, ◌≢◌, ◌⊎◌, inl, inr, ⊎_elim, refl, sym, subst, ap, ◌∙◌, arith, Bool, true, false, ◌==◌, ◌||◌}
use Rattle.circle_run.proofs.Prelude.{◌&&◌, List, [], ◌∷◌, ◌++◌, length, set, get_or-set_same, get_or-set_other, length-set, length-append, eq-eqb, Some, None}
use Rattle.circle_run.proofs.Prelude.{set-get_or, dite, ℕ_discrete, nat_tests, Colour, White, Black, Rest, Asked, Full, Empty, Token, At, Over, RankState}
use Rattle.circle_run.proofs.Prelude.{Handle, Ask, Give, Refuse, Take, TakeNone, Pass, Restart, Conclude, SeeOver, fresh, rank_of, is_black, darker, is_over}
use Rattle.circle_run.proofs.Prelude.{is_rest, holds, is_refused_by, is_at, is_token_black, differs, after_giving, refusal, ranks_after, token_after, put}
use Rattle.circle_run.proofs.Prelude.{put_here, put_elsewhere, put_all, Strings, Mail, vacant, asked, full, empty, Place, Told, no_place, place, put_place}
use Rattle.circle_run.proofs.Prelude.{Deed, ask, give, refuse, take, take_none, pass, restart, conclude, see_over, Legal, told_after, event_of, blackened}
use Rattle.circle_run.proofs.Prelude.{desk_of, state_of, Queues}
use Rattle.ring_core.specs.Step.{asks}

-- legal events, by what they ask for
ask_legal : (ranks : List RankState) (token : Token) (rank victim : ℕ) → rank < length ranks → victim < length ranks → rank ≢ victim
    → (rank_of ranks rank).ended ≡ false
    → (rank_of ranks rank).queued ≡ 0 → is_rest (rank_of ranks rank).desk ≡ true → refusal ranks token (Ask rank victim) ≡ None
ask_legal ranks token rank victim h0 h1 h2 h3 h4 h5 = grind (arith, nat_tests)

give_legal : (ranks : List RankState) (token : Token) (rank to count : ℕ) → rank < length ranks → to < length ranks → rank ≢ to
    → (rank_of ranks rank).ended ≡ false
    → 0 < count → count < (rank_of ranks rank).queued → asks (rank_of ranks to).desk rank ≡ true → refusal ranks token (Give rank to count) ≡ None
give_legal ranks token rank to count h0 h1 h2 h3 h4 h5 h6 = grind (arith, nat_tests)

refuse_legal : (ranks : List RankState) (token : Token) (rank to : ℕ) → rank < length ranks → to < length ranks → rank ≢ to → (rank_of ranks rank).ended ≡ false
    → asks (rank_of ranks to).desk rank ≡ true → refusal ranks token (Refuse rank to) ≡ None
refuse_legal ranks token rank to h0 h1 h2 h3 h4 = grind (arith, nat_tests)

take_legal : (ranks : List RankState) (token : Token) (rank from count : ℕ) → rank < length ranks → from < length ranks → rank ≢ from
    → (rank_of ranks rank).ended ≡ false
    → (rank_of ranks rank).queued + count < 2 ^ 64 → holds (rank_of ranks rank).desk from count ≡ true → refusal ranks token (Take rank from count) ≡ None
take_legal ranks token rank from count h0 h1 h2 h3 h4 h5 = grind (arith, nat_tests)

take_none_legal : (ranks : List RankState) (token : Token) (rank from : ℕ) → rank < length ranks → from < length ranks → rank ≢ from
    → (rank_of ranks rank).ended ≡ false
    → is_refused_by (rank_of ranks rank).desk from ≡ true → refusal ranks token (TakeNone rank from) ≡ None
take_none_legal ranks token rank from h0 h1 h2 h3 h4 = grind (arith, nat_tests)

-- the rank may move the token on
record Holds (ranks : List RankState) (token : Token) (rank : ℕ) : Type 0 where
  within : rank < length ranks
  live : (rank_of ranks rank).ended ≡ false
  idle : (rank_of ranks rank).queued ≡ 0
  rests : is_rest (rank_of ranks rank).desk ≡ true
  here : is_at token rank ≡ true
  tried : (length ranks ≡ 1) ⊎ ((rank_of ranks rank).tried ≡ true)

pass_legal : (ranks : List RankState) (token : Token) (rank : ℕ) (colour : Colour) → Holds ranks token rank → 0 < rank
    → differs (is_black colour) (is_black (rank_of ranks rank).colour || is_token_black token) ≡ false → refusal ranks token (Pass rank colour) ≡ None
pass_legal ranks token rank colour h h6 h7 =
    grind (arith, nat_tests, h.within, h.live, h.idle, h.rests, h.here, h.tried)

restart_legal : (ranks : List RankState) (token : Token) (rank : ℕ) → Holds ranks token rank → rank ≡ 0
    → (is_black (rank_of ranks rank).colour || is_token_black token) ≡ true → refusal ranks token (Restart rank) ≡ None
restart_legal ranks token rank h h6 h7 =
    grind (arith, nat_tests, h.within, h.live, h.idle, h.rests, h.here, h.tried)

conclude_legal : (ranks : List RankState) (token : Token) (rank : ℕ) → Holds ranks token rank → rank ≡ 0
    → (is_black (rank_of ranks rank).colour || is_token_black token) ≡ false → refusal ranks token (Conclude rank) ≡ None
conclude_legal ranks token rank h h6 h7 =
    grind (arith, nat_tests, h.within, h.live, h.idle, h.rests, h.here, h.tried)

see_over_legal : (ranks : List RankState) (token : Token) (rank : ℕ) → rank < length ranks → (rank_of ranks rank).ended ≡ false
    → is_over token ≡ true → refusal ranks token (SeeOver rank) ≡ None
see_over_legal ranks token rank h0 h1 h2 = grind (arith, nat_tests)

pub handle_legal : (ranks : List RankState) (token : Token) (rank : ℕ) (path : List ℕ) (kids : ℕ) → rank < length ranks → (rank_of ranks rank).ended ≡ false
    → 0 < (rank_of ranks rank).queued → (rank_of ranks rank).queued - 1 + kids < 2 ^ 64 → refusal ranks token (Handle rank path kids) ≡ None
handle_legal ranks token rank path kids h0 h1 h2 h3 = grind (arith, nat_tests)

self : (r : ℕ) → (r == r) ≡ true
self r = eq-eqb r r refl

both_hold : (r k : ℕ) → (r == r && k == k) ≡ true
both_hold r k = grind (arith, nat_tests)

same_black : (c m h : Colour) → c ≡ darker m h → differs (is_black c) (is_black m || is_black h) ≡ false
same_black c Black h e = ap (λ (x : Colour). differs (is_black x) true) e
same_black c White Black e = ap (λ (x : Colour). differs (is_black x) true) e
same_black c White White e = ap (λ (x : Colour). differs (is_black x) false) e

one_black : (m h : Colour) → darker m h ≡ Black → (is_black m || is_black h) ≡ true
one_black Black h e = refl
one_black White Black e = refl
one_black White White e = cc

none_black : (m : Colour) → m ≡ White → (is_black m || false) ≡ false
none_black Black e = cc
none_black White e = refl

-- the world of what is told, where rank r has the queue `q r`
pub record Shape (t : Told) (q : ℕ → Strings) (ranks : List RankState) : Type 0 where
  pub sized : length ranks ≡ length t.places
  pub states : (r : ℕ) → r < length ranks → rank_of ranks r ≡ state_of (q r) (place t r)

-- what a deed does to the queue, an answer to one that asks among them
abbrev pub LeavesQueue : Deed → Strings → Strings → Type 0
LeavesQueue (give to batch) q q' = (0 < length batch) × (0 < length q') × (q ≡ batch ++ q')
LeavesQueue (refuse to) q q' = q' ≡ q
LeavesQueue (take from batch) q q' = (q' ≡ q ++ batch) × (length q' < 2 ^ 64)
LeavesQueue deed q q' = Queues deed q q'

module _ (t : Told) (q : ℕ → Strings) (ranks : List RankState) (shape : Shape t q ranks) where
  within : (r : ℕ) → r < length t.places → r < length ranks
  within r h = subst (λ (n : ℕ). r < n) (sym shape.sized) h

  at : (r : ℕ) → r < length t.places → rank_of ranks r ≡ state_of (q r) (place t r)
  at r h = shape.states r (within r h)

  by : (P : RankState → Type 0) (r : ℕ) → r < length t.places → P (state_of (q r) (place t r)) → P (rank_of ranks r)
  by P r h p = subst P (sym (at r h)) p

  may_move : (me : ℕ) (c : Colour) → me < length t.places → (place t me).ended ≡ false → (place t me).mail ≡ vacant → q me ≡ [] → t.token ≡ At me c
      → (length t.places ≡ 1) ⊎ ((place t me).tried ≡ true) → Holds ranks t.token me
  may_move me c inside live mail none here tried = record {
    within = within me inside;
    live = by (λ x. x.ended ≡ false) me inside live;
    idle = by (λ x. x.queued ≡ 0) me inside (ap length none);
    rests = by (λ x. is_rest x.desk ≡ true) me inside (ap (λ (m : Mail). is_rest (desk_of m)) mail);
    here = ap (λ (k : Token). is_at k me) here ∙ self me;
    tried = ⊎_elim (λ one. inl (shape.sized ∙ one)) (λ t. inr (by (λ x. x.tried ≡ true) me inside t)) tried;
  }

  -- the colours of rank and token
  colours : (P : Bool → Type 0) (me : ℕ) (c : Colour) → me < length t.places → t.token ≡ At me c → P (is_black (place t me).colour || is_black c)
      → P (is_black (rank_of ranks me).colour || is_token_black t.token)
  colours P me c inside here p =
      by (λ x. P (is_black x.colour || is_token_black t.token)) me inside
      (subst (λ (k : Token). P (is_black (place t me).colour || is_token_black k)) (sym here) p)

  pub deed_legal : (me : ℕ) (d : Deed) (left : Strings) → Legal me d t → LeavesQueue d (q me) left → refusal ranks t.token (event_of me d) ≡ None
  deed_legal me (ask v) left (acts, other, mail) queue =
      ask_legal ranks t.token me v (within me acts.0) (within v other.0) other.1 (by (λ x. x.ended ≡ false) me acts.0 acts.1)
      (by (λ x. x.queued ≡ 0) me acts.0 (ap length queue.0)) (by (λ x. is_rest x.desk ≡ true) me acts.0 (ap (λ (m : Mail). is_rest (desk_of m)) mail))
  deed_legal me (give to b) left (acts, other, busy, mail) queue =
      give_legal ranks t.token me to (length b) (within me acts.0) (within to other.0) other.1 (by (λ x. x.ended ≡ false) me acts.0 acts.1) queue.0
      (by (λ x. length b < x.queued) me acts.0 (let e : length (q me) ≡ length b + length left = ap length queue.2 ∙ length-append b left in
      let h = queue.1 in omega arith))
      (by (λ x. asks x.desk me ≡ true) to other.0 (ap (λ (m : Mail). asks (desk_of m) me) mail ∙ self me))
  deed_legal me (refuse to) left (acts, other, mail) queue =
      refuse_legal ranks t.token me to (within me acts.0) (within to other.0) other.1 (by (λ x. x.ended ≡ false) me acts.0 acts.1)
      (by (λ x. asks x.desk me ≡ true) to other.0 (ap (λ (m : Mail). asks (desk_of m) me) mail ∙ self me))
  deed_legal me (take from b) left (acts, other, mail) queue =
      take_legal ranks t.token me from (length b) (within me acts.0) (within from other.0) other.1 (by (λ x. x.ended ≡ false) me acts.0 acts.1)
      (by (λ x. x.queued + length b < 2 ^ 64) me acts.0
      (let e : length left ≡ length (q me) + length b = ap length queue.0 ∙ length-append (q me) b in
      subst (λ (k : ℕ). k < 2 ^ 64) e queue.1))
      (by (λ x. holds x.desk from (length b) ≡ true) me acts.0 (ap (λ (m : Mail). holds (desk_of m) from (length b)) mail ∙ both_hold from (length b)))
  deed_legal me (take_none from) left (acts, other, mail) queue =
      take_none_legal ranks t.token me from (within me acts.0) (within from other.0) other.1 (by (λ x. x.ended ≡ false) me acts.0 acts.1)
      (by (λ x. is_refused_by x.desk from ≡ true) me acts.0 (ap (λ (m : Mail). is_refused_by (desk_of m) from) mail ∙ self from))
  deed_legal me (pass colour) left (acts, above, idle, mail, (c, here, mix), tried) queue =
      pass_legal ranks t.token me colour (may_move me c acts.0 acts.1 mail queue.0 here (inr tried)) above
      (colours (λ b. differs (is_black colour) b ≡ false) me c acts.0 here (same_black colour (place t me).colour c mix))
  deed_legal me restart left (acts, first, free, mail, (c, here, black)) queue =
      restart_legal ranks t.token me (may_move me c acts.0 acts.1 mail queue.0 here (⊎_elim (λ one. inl one) (λ f. inr f.1) free)) first
      (colours (λ b. b ≡ true) me c acts.0 here (one_black (place t me).colour c black))
  deed_legal me conclude left (acts, first, idle, mail, here, white, tried) queue =
      conclude_legal ranks t.token me (may_move me White acts.0 acts.1 mail queue.0 here tried) first
      (colours (λ b. b ≡ false) me White acts.0 here (none_black (place t me).colour white))
  deed_legal me see_over left (acts, over) queue =
      see_over_legal ranks t.token me (within me acts.0) (by (λ x. x.ended ≡ false) me acts.0 acts.1) (ap is_over over)

  -- one rank changes
  reshaped : (r : ℕ) (x : Place) (left : Strings) (token : Token) (y : RankState) → r < length t.places → y ≡ state_of left x
      → Shape (record (put_place t r x) { token = token }) (put q r left) (set ranks r y)
  reshaped r x left token y h same = record {
    sized = length-set ranks r y ∙ shape.sized ∙ sym (length-set t.places r x);
    states = λ k below. dite (ℕ_discrete k r)
        (λ e. subst (λ (j : ℕ). rank_of (set ranks r y) j ≡ state_of (put q r left j) (place (put_place t r x) j)) (sym e)
        (get_or-set_same ranks r y (fresh 0) (within r h) ∙ same
        ∙ sym (ap (λ (z : Place). state_of (put q r left r) z) (get_or-set_same t.places r x no_place h)
        ∙ ap (λ (l : Strings). state_of l x) (put_here q r left))))
        (λ ne. get_or-set_other ranks r k y (fresh 0) ne ∙ shape.states k (subst (λ (n : ℕ). k < n) (length-set ranks r y) below)
        ∙ sym (ap (λ (z : Place). state_of (put q r left k) z) (get_or-set_other t.places r k x no_place ne)
        ∙ ap (λ (l : Strings). state_of l (place t k)) (put_elsewhere q r left k ne)));
  }

pub requeue : (t : Told) (p q : ℕ → Strings) (ranks : List RankState) → ((k : ℕ) → k < length ranks → p k ≡ q k) → Shape t q ranks → Shape t p ranks
requeue t p q ranks same shape = record {
  sized = shape.sized;
  states = λ r h. shape.states r h ∙ ap (λ (l : Strings). state_of l (place t r)) (sym (same r h));
}

put_again : (q : ℕ → Strings) (r k : ℕ) → q k ≡ put q r (q r) k
put_again q r k = put_all (λ j y. q j ≡ y) q r (q r) k refl (λ ne. refl)

module _ (t : Told) (q : ℕ → Strings) (ranks : List RankState) (shape : Shape t q ranks) where
  -- one rank changes, whose queue becomes `left`
  becomes : (f : RankState → RankState) (r : ℕ) (x : Place) (left : Strings) (token : Token) → r < length t.places
      → f (state_of (q r) (place t r)) ≡ state_of left x
      → Shape (record (put_place t r x) { token = token }) (put q r left) (set ranks r (f (rank_of ranks r)))
  becomes f r x left token h same = reshaped t q ranks shape r x left token (f (rank_of ranks r)) h (ap f (at t q ranks shape r h) ∙ same)

  queued_as : (x : Place) (a b : Strings) → a ≡ b → state_of a x ≡ state_of b x
  queued_as x a b e = ap (λ (l : Strings). state_of l x) e

  pub deed_leaves : (me : ℕ) (d : Deed) (left : Strings) → Legal me d t → LeavesQueue d (q me) left
      → Shape (told_after me d t) (put q me left) (ranks_after ranks (event_of me d))
  deed_leaves me (ask v) left (acts, other, mail) queue =
      becomes (λ y. record y { desk = Asked v }) me _ left t.token acts.0
      (queued_as (record (place t me) { busy = false; mail = asked v }) (q me) left (queue.0 ∙ sym queue.1))
  deed_leaves me (give to b) left (acts, other, busy, mail) queue =
      let x : Place = blackened (place t me) me to in
      let fewer : length (q me) - length b ≡ length left =
      (let e : length (q me) ≡ length b + length left = ap length queue.2 ∙ length-append b left in omega arith) in
      let mid : Told = put_place t me x in
      let y : RankState = record (after_giving (rank_of ranks me) me to) { queued = (rank_of ranks me).queued - length b } in
      let first : Shape mid (put q me left) (set ranks me y) =
      becomes (λ z. record (after_giving z me to) { queued = z.queued - length b }) me x left t.token acts.0
      (ap (λ (k : ℕ). record (state_of left x) { queued = k }) fewer) in
      let inside : to < length mid.places = (let h = other.0 in simp length-set (omega arith)) in
      let ne : to ≢ me = λ e. other.1 (sym e) in
      let same_rank : rank_of (set ranks me y) to ≡ rank_of ranks to = get_or-set_other ranks me to y (fresh 0) ne in
      let same_place : place mid to ≡ place t to = get_or-set_other t.places me to x no_place ne in
      let second : record (rank_of ranks to) { desk = Full me (length b) } ≡ state_of (put q me left to) (record (place t to) { mail = full me b }) =
      ap (λ (z : RankState). record z { desk = Full me (length b) })
      (sym same_rank ∙ at mid (put q me left) (set ranks me y) first to inside ∙ ap (λ (z : Place). state_of (put q me left to) z) same_place) in
      requeue (told_after me (give to b) t) (put q me left) (put (put q me left) to (put q me left to))
      (ranks_after ranks (event_of me (give to b))) (λ k below. put_again (put q me left) to k)
      (reshaped mid (put q me left) (set ranks me y) first to (record (place t to) { mail = full me b }) (put q me left to) t.token
      (record (rank_of ranks to) { desk = Full me (length b) }) inside second)
  deed_leaves me (refuse to) left (acts, other, mail) queue =
      requeue (told_after me (refuse to) t) (put q me left) (put q to (q to)) (ranks_after ranks (event_of me (refuse to)))
      (λ k below. put_all (λ j y. y ≡ put q to (q to) j) q me left k (queue ∙ put_again q to me) (λ ne. put_again q to k))
      (becomes (λ y. record y { desk = Empty me }) to (record (place t to) { mail = empty me }) (q to) t.token other.0 refl)
  deed_leaves me (take from b) left (acts, other, mail) queue =
      becomes (λ y. record y { queued = y.queued + length b; desk = Rest; tried = false }) me _ left t.token acts.0
      (ap (λ (k : ℕ). record (state_of left (record (place t me) { busy = true; tried = false; mail = vacant })) { queued = k })
      (sym (ap length queue.0 ∙ length-append (q me) b)))
  deed_leaves me (take_none from) left (acts, other, mail) queue =
      becomes (λ y. record y { desk = Rest; tried = true }) me _ left t.token acts.0
      (queued_as (record (place t me) { tried = true; mail = vacant }) (q me) left (sym queue))
  deed_leaves me (pass c) left (acts, above, idle, mail, held, tried) queue =
      becomes (λ y. record y { colour = White }) me _ left (At (me - 1) c) acts.0
      (queued_as (record (place t me) { colour = White }) (q me) left (queue.0 ∙ sym queue.1))
  deed_leaves me restart left (acts, first, free, mail, held) queue =
      becomes (λ y. record y { colour = White }) me _ left (At (length t.places - 1) White) acts.0
      (queued_as (record (place t me) { busy = false; colour = White }) (q me) left (queue.0 ∙ sym queue.1))
  deed_leaves me conclude left (acts, first, idle, mail, here, white, tried) queue =
      becomes (λ y. record y { ended = true }) me _ left Over acts.0 (queued_as (record (place t me) { ended = true }) (q me) left (queue.0 ∙ sym queue.1))
  deed_leaves me see_over left (acts, over) queue =
      becomes (λ y. record y { ended = true }) me _ left t.token acts.0 (queued_as (record (place t me) { ended = true }) (q me) left (queue.0 ∙ sym queue.1))

  -- the string that is handled leaves the queue, and those pushed come
  pub handle_leaves : (me : ℕ) (path : List ℕ) (kids rest : Strings) → me < length t.places → q me ≡ rest ++ path ∷ []
      → Shape t (put q me (rest ++ kids)) (ranks_after ranks (Handle me path (length kids)))
  handle_leaves me path kids rest inside newest =
      let count : length (q me) - 1 + length kids ≡ length (rest ++ kids) =
      (let a : length (q me) ≡ length rest + 1 = ap length newest ∙ length-append rest (path ∷ []) in let b = length-append rest kids in omega arith) in
      let same : record (rank_of ranks me) { queued = (rank_of ranks me).queued - 1 + length kids } ≡ state_of (rest ++ kids) (place t me) =
      ap (λ (z : RankState). record z { queued = z.queued - 1 + length kids }) (at t q ranks shape me inside)
      ∙ ap (λ (k : ℕ). record (state_of (q me) (place t me)) { queued = k }) count in
      subst (λ (places : List Place).
      Shape (record t { places = places }) (put q me (rest ++ kids)) (ranks_after ranks (Handle me path (length kids))))
      (set-get_or t.places me no_place)
      (reshaped t q ranks shape me (place t me) (rest ++ kids) t.token
      (record (rank_of ranks me) { queued = (rank_of ranks me).queued - 1 + length kids }) inside same)

-- the token after a deed is the token after its event
pub token_same : (me : ℕ) (d : Deed) (t : Told) (ranks : List RankState) → length ranks ≡ length t.places
    → token_after ranks t.token (event_of me d) ≡ (told_after me d t).token
token_same me (ask v) t ranks e = refl
token_same me (give to b) t ranks e = refl
token_same me (refuse to) t ranks e = refl
token_same me (take from b) t ranks e = refl
token_same me (take_none from) t ranks e = refl
token_same me (pass c) t ranks e = refl
token_same me restart t ranks e = ap (λ (n : ℕ). At (n - 1) White) e
token_same me conclude t ranks e = refl
token_same me see_over t ranks e = refl

pub some_is : (t u : Told) → Some t ≡ Some u → t ≡ u
some_is t u e = cc
