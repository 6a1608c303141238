-- A step at the seat of id keeps the picture sound, and what seats know of the token.
use Rattle.post_board.proofs.Prelude.{◌≡◌, ℕ, ◌-◌, ◌<◌, ◌≢◌, ◌⊎◌, inl, inr, ⊎_elim, refl, sym, subst, ap, ◌∙◌, arith, Bool, true, false, cond, nat_lt, eq-eqb}
use Rattle.post_board.proofs.Prelude.{[], length, Option, Some, None, put, PictureInvariant, is_filled, darker, is_over, is_at, put_here, put_elsewhere}
use Rattle.post_board.proofs.Prelude.{put_all, Colour, White, Black, Token, At, Over, Place, Told, vacant, asked, empty, place, put_place, mailbox, picture}
use Rattle.post_board.proofs.Prelude.{Sound, Deed, ask, give, refuse, take, take_none, pass, restart, conclude, see_over, told_after, Legal, HereFits, Reached}
use Rattle.post_board.proofs.Prelude.{begun, did, Sign, resting, asking, full, fetching, emptied, mail_of, sheet, RingFacts, Known, dite, ℕ_discrete}
use Rattle.post_board.specs.BoardRule.{place_of, told_of}
use Rattle.post_board.specs.Told.{full as filled}
use Rattle.post_board.proofs.DeedLemmas.{sound_after}
use Rattle.post_board.proofs.PlainStart.{sound_at_first}
use Rattle.post_board.proofs.Puts.{put_self}
use Rattle.post_board.proofs.Sheets.{sheet_size, place_at, places, seen_own, seen_two, seen_same, done, put_one, put_two}

-- what was reached is sound
pub sound_of : (n : ℕ) (t : Told) → 0 < n → Reached n t → Sound t
sound_of n t some begun = sound_at_first n some
sound_of n t some (did u me deed before legal) = sound_after me deed u legal (sound_of n u some before)

pub sound_now : (n : ℕ) (known : ℕ → Known) (signs : ℕ → Sign) (token : Token) → RingFacts n known signs token → 0 < n → Sound (told_of n known signs token)
sound_now n known signs token T some = sound_of n (told_of n known signs token) some T.reached

elsewhere : (x : Option Colour) (k id : ℕ) (c : Colour) (t u : Token) → k ≢ id → t ≡ At id c → HereFits x k t → HereFits x k u
elsewhere None k id c t u ne at h = tt
elsewhere (Some d) k id c t u ne at h = absurd (let e : At k d ≡ At id c = sym h ∙ at in ne (cc))

module _ (n : ℕ) (known : ℕ → Known) (signs : ℕ → Sign) (token : Token) (T : RingFacts n known signs token) (id : ℕ) (me : id < n) (w : Known) where
  -- nothing that the picture shows changes
  pub calm_told : (r : ℕ) (d : Sign) → place_of w resting ≡ place_of (known id) resting → mail_of d ≡ mail_of (signs r)
      → told_of n (put known id w) (put signs r d) token ≡ told_of n known signs token
  calm_told r d face mail = ap (λ (f : ℕ → Place). sheet n f token) (seen_same known signs id w r d face mail)

  pub calm_told_all : place_of w resting ≡ place_of (known id) resting → told_of n (put known id w) signs token ≡ told_of n known signs token
  calm_told_all face = subst (λ (f : ℕ → Sign). told_of n (put known id w) f token ≡ told_of n known signs token) (put_self signs id)
      (calm_told id (signs id) face refl)

  pub calm : (r : ℕ) (d : Sign) → place_of w resting ≡ place_of (known id) resting → mail_of d ≡ mail_of (signs r) → HereFits w.here id token
      → RingFacts n (put known id w) (put signs r d) token
  calm r d face mail here = record {
    reached = subst (Reached n) (sym (calm_told r d face mail)) T.reached;
    here = λ k h. put_all (λ j v. HereFits v.here j token) known id w k here (λ ne. T.here k h);
  }

  pub calm_all : place_of w resting ≡ place_of (known id) resting → HereFits w.here id token → RingFacts n (put known id w) signs token
  calm_all face here = subst (λ (f : ℕ → Sign). RingFacts n (put known id w) f token) (put_self signs id) (calm id (signs id) face refl here)

  at : place (told_of n known signs token) id ≡ place_of (known id) (signs id)
  at = place_at n (places known signs) token id me

  -- the rank is told, and has not ended
  pub acts : (known id).ended ≡ false → (id < length (told_of n known signs token).places) × ((place (told_of n known signs token) id).ended ≡ false)
  acts live = (subst (λ (m : ℕ). id < m) (sym (sheet_size n (places known signs))) me, ap (λ (x : Place). x.ended) at ∙ live)

  pub others : (r : ℕ) → r < n → id ≢ r → (r < length (told_of n known signs token).places) × (id ≢ r)
  others r h ne = (subst (λ (m : ℕ). r < m) (sym (sheet_size n (places known signs))) h, ne)

  -- a deed of this rank: it may be done, and leaves the seat with what it knows then, these mailboxes and this token
  abbrev pub Does : Deed → (ℕ → Sign) → Token → Type 0
  Does deed signs' token' =
      Legal id deed (told_of n known signs token) × (told_after id deed (told_of n known signs token) ≡ told_of n (put known id w) signs' token')

  -- it leads on, where the seats know then what is so of the token
  leads : (deed : Deed) (signs' : ℕ → Sign) (token' : Token) → Does deed signs' token'
      → ((k : ℕ) → k < n → HereFits (put known id w k).here k token') → RingFacts n (put known id w) signs' token'
  leads deed signs' token' does here = record {
    reached = done n (places known signs) (places (put known id w) signs') token id me deed token' does.0 does.1 T.reached;
    here = here;
  }

  -- what the seats know, where the token is elsewhere or as it was
  all_here : (token' : Token) → HereFits w.here id token' → ((k : ℕ) → k < n → k ≢ id → HereFits (known k).here k token')
      → (k : ℕ) → k < n → HereFits (put known id w k).here k token'
  all_here token' here theirs k h = put_all (λ j v. HereFits v.here j token') known id w k here (theirs k h)

  same_here : w.here ≡ (known id).here → (k : ℕ) → k < n → HereFits (put known id w k).here k token
  same_here here = all_here token (subst (λ (x : Option Colour). HereFits x id token) (sym here) (T.here id me)) (λ k h ne. T.here k h)

  -- a deed that changes the own place, and the token
  own_does : (deed : Deed) (d : Sign) (token' : Token) → Legal id deed (told_of n known signs token)
      → told_after id deed (told_of n known signs token) ≡ record (put_place (told_of n known signs token) id (place_of w d)) { token = token' }
      → Does deed (put signs id d) token'
  own_does deed d token' legal left = (
    legal,
    left ∙ put_one n (places known signs) (places (put known id w) (put signs id d)) token id me id (place_of w d) token' me (seen_own known signs id w d),
  )

  -- the own mailbox stays as it is
  self_does : (deed : Deed) (token' : Token) → Legal id deed (told_of n known signs token)
      → told_after id deed (told_of n known signs token) ≡ record (put_place (told_of n known signs token) id (place_of w (signs id))) { token = token' }
      → Does deed signs token'
  self_does deed token' legal left = subst (λ (f : ℕ → Sign). Does deed f token') (put_self signs id) (own_does deed (signs id) token' legal left)

  pub asks_does : (victim : ℕ) → victim < n → id ≢ victim → (known id).ended ≡ false → signs id ≡ resting
      → place_of w resting ≡ record (place_of (known id) resting) { busy = false } → Does (ask victim) (put signs id (asking victim)) token
  asks_does victim h ne live rests face =
      own_does (ask victim) (asking victim) token (acts live, others victim h ne, ap (λ (x : Place). x.mail) at ∙ ap mail_of rests)
      (ap (λ (x : Place). put_place (told_of n known signs token) id (record x { busy = false; mail = asked victim })) at
      ∙ ap (λ (x : Place). put_place (told_of n known signs token) id (record x { mail = asked victim })) (sym face))

  pub asks : (victim : ℕ) → victim < n → id ≢ victim → (known id).ended ≡ false → signs id ≡ resting
      → place_of w resting ≡ record (place_of (known id) resting) { busy = false } → w.here ≡ (known id).here
      → RingFacts n (put known id w) (put signs id (asking victim)) token
  asks victim h ne live rests face here =
      leads (ask victim) (put signs id (asking victim)) token (asks_does victim h ne live rests face) (same_here here)

  pub fetches_does : (from : ℕ) → from < n → id ≢ from → (known id).ended ≡ false → signs id ≡ full from
      → place_of w resting ≡ record (place_of (known id) resting) { busy = true; tried = false } → Does (take from []) (put signs id (fetching from)) token
  fetches_does from h ne live was face =
      own_does (take from []) (fetching from) token (acts live, others from h ne, ap (λ (x : Place). x.mail) at ∙ ap mail_of was)
      (ap (λ (x : Place). put_place (told_of n known signs token) id (record x { busy = true; tried = false; mail = vacant })) at
      ∙ ap (λ (x : Place). put_place (told_of n known signs token) id (record x { mail = vacant })) (sym face))

  pub fetches : (from : ℕ) → from < n → id ≢ from → (known id).ended ≡ false → signs id ≡ full from
      → place_of w resting ≡ record (place_of (known id) resting) { busy = true; tried = false } → w.here ≡ (known id).here
      → RingFacts n (put known id w) (put signs id (fetching from)) token
  fetches from h ne live was face here =
      leads (take from []) (put signs id (fetching from)) token (fetches_does from h ne live was face) (same_here here)

  pub empties_does : (from : ℕ) → from < n → id ≢ from → (known id).ended ≡ false → signs id ≡ emptied from
      → place_of w resting ≡ record (place_of (known id) resting) { tried = true } → Does (take_none from) (put signs id resting) token
  empties_does from h ne live was face =
      own_does (take_none from) resting token (acts live, others from h ne, ap (λ (x : Place). x.mail) at ∙ ap mail_of was)
      (ap (λ (x : Place). put_place (told_of n known signs token) id (record x { tried = true; mail = vacant })) at
      ∙ ap (λ (x : Place). put_place (told_of n known signs token) id (record x { mail = vacant })) (sym face))

  pub empties : (from : ℕ) → from < n → id ≢ from → (known id).ended ≡ false → signs id ≡ emptied from
      → place_of w resting ≡ record (place_of (known id) resting) { tried = true } → w.here ≡ (known id).here
      → RingFacts n (put known id w) (put signs id resting) token
  empties from h ne live was face here =
      leads (take_none from) (put signs id resting) token (empties_does from h ne live was face) (same_here here)

  -- the mailbox of r, which asks this rank, comes to hold a batch
  pub posts_does : (r : ℕ) → r < n → id ≢ r → (known id).ended ≡ false → (known id).busy ≡ true → mail_of (signs r) ≡ asked id
      → place_of w resting ≡ record (place_of (known id) resting) { colour = cond (nat_lt id r) Black (known id).colour }
      → Does (give r []) (put signs r (full id)) token
  posts_does r h ne live busy was face =
      let t : Told = told_of n known signs token in
      let at_r : place t r ≡ place_of (known r) (signs r) = place_at n (places known signs) token r h in (
        (acts live, others r h ne, ap (λ (x : Place). x.busy) at ∙ busy, ap (λ (x : Place). x.mail) at_r ∙ was),
        ap (λ (x : Place). put_place (put_place t id (record x { colour = cond (nat_lt id r) Black x.colour })) r
            (record (place t r) { mail = filled id [] })) at
            ∙ ap (λ (x : Place). put_place (put_place t id (record x { mail = mail_of (signs id) })) r (record (place t r) { mail = filled id [] })) (sym face)
            ∙ ap (λ (x : Place). put_place (put_place t id (place_of w (signs id))) r (record x { mail = filled id [] })) at_r
            ∙ put_two n (places known signs) (places (put known id w) (put signs r (full id))) token id me r (place_of w (signs id))
            (place_of (known r) (full id)) h (seen_two known signs id w r (full id) ne),
      )

  pub posts : (r : ℕ) → r < n → id ≢ r → (known id).ended ≡ false → (known id).busy ≡ true → mail_of (signs r) ≡ asked id
      → place_of w resting ≡ record (place_of (known id) resting) { colour = cond (nat_lt id r) Black (known id).colour } → w.here ≡ (known id).here
      → RingFacts n (put known id w) (put signs r (full id)) token
  posts r h ne live busy was face here =
      leads (give r []) (put signs r (full id)) token (posts_does r h ne live busy was face) (same_here here)

  -- the mailbox of r, which asks this rank, comes to hold a refusal
  pub refuses_does : (r : ℕ) → r < n → id ≢ r → (known id).ended ≡ false → mail_of (signs r) ≡ asked id
      → place_of w resting ≡ place_of (known id) resting → Does (refuse r) (put signs r (emptied id)) token
  refuses_does r h ne live was face =
      let t : Told = told_of n known signs token in
      let at_r : place t r ≡ place_of (known r) (signs r) = place_at n (places known signs) token r h in
      let same : place_of w (signs id) ≡ places known signs id = ap (λ (x : Place). record x { mail = mail_of (signs id) }) face in (
        (acts live, others r h ne, ap (λ (x : Place). x.mail) at_r ∙ was),
        ap (λ (x : Place). put_place t r (record x { mail = empty id })) at_r
            ∙ put_one n (places known signs) (places (put known id w) (put signs r (emptied id))) token id me r (place_of (known r) (emptied id)) token h
            (seen_two known signs id w r (emptied id) ne ∙ ap (λ (x : Place). put (put (places known signs) id x) r (place_of (known r) (emptied id))) same
            ∙ ap (λ (f : ℕ → Place). put f r (place_of (known r) (emptied id))) (put_self (places known signs) id)),
      )

  pub refuses : (r : ℕ) → r < n → id ≢ r → (known id).ended ≡ false → mail_of (signs r) ≡ asked id → place_of w resting ≡ place_of (known id) resting
      → w.here ≡ (known id).here
      → RingFacts n (put known id w) (put signs r (emptied id)) token
  refuses r h ne live was face here =
      leads (refuse r) (put signs r (emptied id)) token (refuses_does r h ne live was face) (same_here here)

  pub sees_over_does : (known id).ended ≡ false → token ≡ Over → place_of w resting ≡ record (place_of (known id) resting) { ended = true }
      → Does see_over signs token
  sees_over_does live over face =
      self_does see_over token (acts live, over)
      (ap (λ (x : Place). put_place (told_of n known signs token) id (record x { ended = true })) at
      ∙ ap (λ (x : Place). put_place (told_of n known signs token) id (record x { mail = mail_of (signs id) })) (sym face))

  pub sees_over : (known id).ended ≡ false → token ≡ Over → place_of w resting ≡ record (place_of (known id) resting) { ended = true } → w.here ≡ None
      → RingFacts n (put known id w) signs token
  sees_over live over face here =
      leads see_over signs token (sees_over_does live over face)
      (all_here token (subst (λ (x : Option Colour). HereFits x id token) (sym here) tt) (λ k h2 ne2. T.here k h2))

  -- a rank that has tried is not busy
  pub idle : (known id).tried ≡ true → (known id).busy ≡ false
  idle tried = ap (λ (x : Place). x.busy) (sym at) ∙ (sound_now n known signs token T (omega arith)).sane.tried id (ap (λ (x : Place). x.tried) at ∙ tried)

  -- the token goes on, and this seat does not have it then
  moved_here : (c : Colour) (token' : Token) → token ≡ At id c → w.here ≡ None → (k : ℕ) → k < n → HereFits (put known id w k).here k token'
  moved_here c token' there here = all_here token' (subst (λ (x : Option Colour). HereFits x id token') (sym here) tt)
      (λ k h2 ne2. elsewhere (known k).here k id c token token' ne2 there (T.here k h2))

  pub passes_does : (c : Colour) → 0 < id → (known id).ended ≡ false → (known id).tried ≡ true → signs id ≡ resting → token ≡ At id c
      → place_of w resting ≡ record (place_of (known id) resting) { colour = White }
      → Does (pass (darker (known id).colour c)) signs (At (id - 1) (darker (known id).colour c))
  passes_does c above live tried rests there face =
      self_does (pass (darker (known id).colour c)) (At (id - 1) (darker (known id).colour c)) (
        acts live,
        above,
        ap (λ (x : Place). x.busy) at ∙ idle tried,
        ap (λ (x : Place). x.mail) at
            ∙ ap mail_of rests,
        (c, there, ap (λ (x : Place). darker x.colour c) (sym at)),
        ap (λ (x : Place). x.tried) at ∙ tried,
      )
      (ap (λ (x : Place). record (put_place (told_of n known signs token) id (record x { colour = White })) {
        token =
            At (id - 1) (darker (known id).colour c);
      }) at
      ∙ ap (λ (x : Place). record (put_place (told_of n known signs token) id (record x { mail = mail_of (signs id) })) {
        token =
            At (id - 1) (darker (known id).colour c);
      }) (sym face))

  pub passes : (c : Colour) → 0 < id → (known id).ended ≡ false → (known id).tried ≡ true → signs id ≡ resting → token ≡ At id c
      → place_of w resting ≡ record (place_of (known id) resting) { colour = White } → w.here ≡ None
      → RingFacts n (put known id w) signs (At (id - 1) (darker (known id).colour c))
  passes c above live tried rests there face here =
      leads (pass (darker (known id).colour c)) signs (At (id - 1) (darker (known id).colour c)) (passes_does c above live tried rests there face)
      (moved_here c (At (id - 1) (darker (known id).colour c)) there here)

  -- with one rank it may be busy
  pub restarts_does : (c : Colour) → id ≡ 0 → (known id).ended ≡ false → (n ≡ 1) ⊎ ((known id).tried ≡ true) → signs id ≡ resting → token ≡ At id c
      → darker (known id).colour c ≡ Black → place_of w resting ≡ record (place_of (known id) resting) { colour = White; busy = false }
      → Does restart signs (At (n - 1) White)
  restarts_does c first live tried rests there black face =
      let t : Told = told_of n known signs token in
      let size : length t.places ≡ n = sheet_size n (places known signs) in
      self_does restart (At (n - 1) White) (
        acts live,
        first,
        ⊎_elim (λ e. inl (size ∙ e)) (λ e. inr (ap (λ (x : Place). x.busy) at ∙ idle e, ap (λ (x : Place). x.tried) at ∙ e)) tried,
        ap (λ (x : Place). x.mail) at ∙ ap mail_of rests,
        (c, there, ap (λ (x : Place). darker x.colour c) at ∙ black),
      )
      (ap (λ (x : Place). record (put_place t id (record x { busy = false; colour = White })) { token = At (length t.places - 1) White }) at
      ∙ ap (λ (x : Place). record (put_place t id (record x { mail = mail_of (signs id) })) { token = At (length t.places - 1) White }) (sym face)
      ∙ ap (λ (m : ℕ). record (put_place t id (place_of w (signs id))) { token = At (m - 1) White }) size)

  pub restarts : (c : Colour) → id ≡ 0 → (known id).ended ≡ false → (n ≡ 1) ⊎ ((known id).tried ≡ true) → signs id ≡ resting → token ≡ At id c
      → darker (known id).colour c ≡ Black
      → place_of w resting ≡ record (place_of (known id) resting) { colour = White; busy = false } → w.here ≡ None
      → RingFacts n (put known id w) signs (At (n - 1) White)
  restarts c first live tried rests there black face here =
      leads restart signs (At (n - 1) White) (restarts_does c first live tried rests there black face) (moved_here c (At (n - 1) White) there here)

  pub concludes_does : id ≡ 0 → (known id).ended ≡ false → (n ≡ 1) ⊎ ((known id).tried ≡ true) → signs id ≡ resting → token ≡ At id White
      → (known id).colour ≡ White → place_of w resting ≡ record (place_of (known id) resting) { ended = true } → Does conclude signs Over
  concludes_does first live tried rests there white face =
      let t : Told = told_of n known signs token in
      let size : length t.places ≡ n = sheet_size n (places known signs) in
      let busy : (known id).busy ≡ false = ⊎_elim (λ e. ap (λ (x : Place). x.busy) (sym at) ∙ ap (λ (k : ℕ). (place t k).busy) first
      ∙ (sound_now n known signs token T (omega arith)).sane.alone (size ∙ e) (there ∙ ap (λ (k : ℕ). At k White) first)) idle tried in
      self_does conclude Over (
        acts live,
        first,
        ap (λ (x : Place). x.busy) at ∙ busy,
        ap (λ (x : Place). x.mail) at ∙ ap mail_of rests,
        there,
        ap (λ (x : Place). x.colour) at ∙ white,
        ⊎_elim (λ e. inl (size ∙ e)) (λ e. inr (ap (λ (x : Place). x.tried) at ∙ e)) tried,
      )
      (ap (λ (x : Place). record (put_place t id (record x { ended = true })) { token = Over }) at
      ∙ ap (λ (x : Place). record (put_place t id (record x { mail = mail_of (signs id) })) { token = Over }) (sym face))

  pub concludes : id ≡ 0 → (known id).ended ≡ false → (n ≡ 1) ⊎ ((known id).tried ≡ true) → signs id ≡ resting → token ≡ At id White → (known id).colour ≡ White
      → place_of w resting ≡ record (place_of (known id) resting) { ended = true } → w.here ≡ None
      → RingFacts n (put known id w) signs Over
  concludes first live tried rests there white face here =
      leads conclude signs Over (concludes_does first live tried rests there white face) (moved_here White Over there here)

put_again : {A : Type 0} (f : ℕ → A) (i : ℕ) (x y : A) → put (put f i x) i y ≡ put f i y
put_again f i x y = λ t k. at k t
  where
    at : (k : ℕ) → put (put f i x) i y k ≡ put f i y k
    at k = dite (ℕ_discrete k i)
        (λ e. subst (λ (j : ℕ). put (put f i x) i y j ≡ put f i y j) (sym e) (put_here (put f i x) i y ∙ sym (put_here f i y)))
        (λ ne. put_elsewhere (put f i x) i y k ne ∙ put_elsewhere f i x k ne ∙ sym (put_elsewhere f i y k ne))

-- withdrawing is as if the rank that was asked, which has stopped, had refused, and that had been taken
pub withdraws : (n : ℕ) (known : ℕ → Known) (signs : ℕ → Sign) (token : Token) → RingFacts n known signs token → (id : ℕ) → id < n → (w : Known) (v : ℕ)
    → v < n → id ≢ v
    → (known id).ended ≡ false → (known v).ended ≡ false → signs id ≡ asking v → place_of w resting ≡ record (place_of (known id) resting) { tried = true }
    → w.here ≡ (known id).here
    → RingFacts n (put known id w) (put signs id resting) token
withdraws n known signs token T id me w v h ne live theirs was face here =
    let refused : ℕ → Sign = put signs id (emptied v) in
    let first : RingFacts n known refused token = subst (λ (f : ℕ → Known). RingFacts n f refused token) (put_self known v)
    (refuses n known signs token T v h (known v) id me (λ e. ne (sym e)) theirs (ap mail_of was) refl refl) in
    subst (λ (f : ℕ → Sign). RingFacts n (put known id w) f token) (put_again signs id (emptied v) resting)
    (empties n known refused token first id me w v h ne live (put_here signs id (emptied v)) face here)

pub not_true : (b : Bool) → (b ≡ true → ⊥) → b ≡ false
not_true true never = absurd (never refl)
not_true false never = refl

-- when all is over, no rank is busy and no mailbox holds a batch
pub over_quiet : (n : ℕ) (known : ℕ → Known) (signs : ℕ → Sign) (token : Token) → RingFacts n known signs token → token ≡ Over → (r : ℕ) → r < n
    → ((known r).busy ≡ false) × ((i : ℕ) → signs r ≢ full i)
over_quiet n known signs token T over r h =
    let t : Told = told_of n known signs token in
    let at_r : place t r ≡ place_of (known r) (signs r) = place_at n (places known signs) token r h in
    let quiet : PictureInvariant (length t.places) (picture t) Over = subst (PictureInvariant (length t.places) (picture t)) over
    (sound_now n known signs token T (omega arith)).token in
    let inside : r < length t.places = subst (λ (m : ℕ). r < m) (sym (sheet_size n (places known signs))) h in (
      not_true (known r).busy (λ b. quiet r (inside, inl (ap (λ (x : Place). x.busy) at_r ∙ b))),
      λ i e. quiet r (inside, inr (ap (λ (x : Place). is_filled (mailbox x.mail)) at_r ∙ ap (λ (d : Sign). is_filled (mailbox (mail_of d))) e)),
    )

-- a token that is elsewhere is at another rank
pub many : (n : ℕ) (known : ℕ → Known) (signs : ℕ → Sign) (token : Token) → RingFacts n known signs token → (r : ℕ) → r < n → is_at token r ≡ false
    → is_over token ≡ false → 1 < n
many n known signs token T r h away going =
    let t : Told = told_of n known signs token in
    other token refl
  where
    other : (u : Token) → token ≡ u → 1 < n
    other (At p c) e =
        let below : p < n = subst (λ (m : ℕ). p < m) (sheet_size n (places known signs)) ((sound_now n known signs token T (omega arith)).sane.within p c e) in
        let apart : p ≢ r = λ q. (let yes : is_at token r ≡ true = ap (λ (u : Token). is_at u r) e ∙ eq-eqb p r q in cc) in
        omega arith
    other Over e = absurd (let yes : is_over token ≡ true = ap is_over e in cc)
