-- Each event alone keeps the token invariant of every picture that has it: one lemma for each kind of event, and all of them together.
use Rattle.ring_core.proofs.Prelude.{◌≡◌, ℕ, ◌+◌, ◌-◌, ◌≢◌, ◌⊎◌, inl, inr, ⊎_elim, refl, sym, subst, ap, ◌∙◌, arith, Bool, true, false, cond, nat_lt, List}
use Rattle.ring_core.proofs.Prelude.{eq-eqb, ne_eqb, dite, ℕ_discrete, nat_tests, Colour, White, Black, Token, At, Over, Event, Handle, Ask, Give, Refuse, Take}
use Rattle.ring_core.proofs.Prelude.{TakeNone, Pass, Restart, Conclude, SeeOver, darker, at_rest, filled_by, is_filled, RankPicture, Picture, put, Becomes}
use Rattle.ring_core.proofs.Prelude.{gave, Happens, Active, BlackRank, PictureInvariant}
use Rattle.ring_core.proofs.TokenLemmas.{kept_where_nobody_starts, kept_by_giving, kept_by_passing, holds_at_last_rank, quiet_where_rank_0_concludes}

module _ {A : Type 0} where
  pub put_here : (f : ℕ → A) (i : ℕ) (x : A) → put f i x i ≡ x
  put_here f i x = ap (λ (b : Bool). cond b x (f i)) (eq-eqb i i refl)

  pub put_elsewhere : (f : ℕ → A) (i : ℕ) (x : A) (k : ℕ) → k ≢ i → put f i x k ≡ f k
  put_elsewhere f i x k ne = ap (λ (b : Bool). cond b x (f k)) (ne_eqb k i ne)

  -- what holds of x at i, and of each other place as it was, holds everywhere
  pub put_all : (P : ℕ → A → Type 0) (f : ℕ → A) (i : ℕ) (x : A) (k : ℕ) → P i x → (k ≢ i → P k (f k)) → P k (put f i x k)
  put_all P f i x k here elsewhere = dite (ℕ_discrete k i)
      (λ e. subst (λ (j : ℕ). P j (put f i x j)) (sym e) (subst (P i) (sym (put_here f i x)) here))
      (λ ne. subst (P k) (sym (put_elsewhere f i x k ne)) (elsewhere ne))

  pub put_same : {B : Type 0} (g : ℕ → A → B) (f : ℕ → A) (i : ℕ) (x : A) → g i x ≡ g i (f i) → (k : ℕ) → g k (put f i x k) ≡ g k (f k)
  put_same g f i x e k = put_all (λ j y. g j y ≡ g j (f j)) f i x k e (λ ne. refl)

-- what holds of the rank that changed, and of each other as it was, holds of each rank afterwards
pub holds_of_all : (P : ℕ → RankPicture → Type 0) (p : Picture) (r : ℕ) (x : RankPicture) (q : Picture) → Becomes p r x q → (k : ℕ) → P r x
    → (k ≢ r → P k (p k)) → P k (q k)
holds_of_all P p r x q becomes k here elsewhere = subst (P k) (sym (becomes k)) (put_all P p r x k here elsewhere)

abbrev pub IsActive : RankPicture → Type 0
IsActive x = (x.busy ≡ true) ⊎ (is_filled x.mailbox ≡ true)

-- one rank changes, which does not become active and is not whitened
pub calm_change_keeps_invariant : (n : ℕ) (p : Picture) (t : Token) (r : ℕ) (x : RankPicture) (q : Picture) → Becomes p r x q
    → (IsActive x → IsActive (p r)) → ((p r).colour ≡ Black → x.colour ≡ Black)
    → PictureInvariant n p t → PictureInvariant n q t
calm_change_keeps_invariant n p t r x q becomes calmer darker held =
    kept_where_nobody_starts (Active n p) (BlackRank n p) (Active n q) (BlackRank n q) t
    (λ k active. (active.0, holds_of_all (λ j y. IsActive y → IsActive (p j)) p r x q becomes k calmer (λ ne a. a) active.1))
    (λ k dark. (dark.0, holds_of_all (λ j y. (p j).colour ≡ Black → y.colour ≡ Black) p r x q becomes k darker (λ ne d. d) dark.1))
    held

idle : (x : RankPicture) → x.busy ≡ false → x.mailbox ≡ at_rest → IsActive x → ⊥
idle x free vacant active =
    ⊎_elim (λ b. (let e : true ≡ false = sym b ∙ free in cc))
    (λ f. (let e : is_filled at_rest ≡ true = sym (ap is_filled vacant) ∙ f in cc)) active

darker_left : (a b : Colour) → a ≡ Black → darker a b ≡ Black
darker_left Black b e = refl
darker_left White b e = cc

darker_right : (a b : Colour) → b ≡ Black → darker a b ≡ Black
darker_right Black b e = refl
darker_right White b e = e

black_is_not_white : {A : Type 0} (c : Colour) → c ≡ Black → c ≡ White → A
black_is_not_white c a b = cc

stays_black : (b : Bool) (c : Colour) → c ≡ Black → cond b Black c ≡ Black
stays_black true c e = refl
stays_black false c e = e

-- the same token
along : (n : ℕ) (q : Picture) (t u : Token) → u ≡ t → PictureInvariant n q t → PictureInvariant n q u
along n q t u e held = subst (PictureInvariant n q) (sym e) held

pub handle_keeps_invariant : (n : ℕ) (p : Picture) (t : Token) (rank : ℕ) (path : List ℕ) (kids : ℕ) (q : Picture) (u : Token)
    → Happens n p t (Handle rank path kids) q u → PictureInvariant n p t → PictureInvariant n q u
handle_keeps_invariant n p t rank path kids q u (acts, busy, became, same) held =
    along n q t u same (calm_change_keeps_invariant n p t rank _ q became.1 (λ a. inl busy) (λ d. d) held)

pub ask_keeps_invariant : (n : ℕ) (p : Picture) (t : Token) (rank victim : ℕ) (q : Picture) (u : Token)
    → Happens n p t (Ask rank victim) q u → PictureInvariant n p t → PictureInvariant n q u
ask_keeps_invariant n p t rank victim q u (acts, pair, vacant, became, same) held =
    along n q t u same (calm_change_keeps_invariant n p t rank _ q became (λ a. ⊎_elim (λ b. cc) (λ f. cc) a) (λ d. d) held)

pub give_keeps_invariant : (n : ℕ) (p : Picture) (t : Token) (rank to count : ℕ) (q : Picture) (u : Token)
    → Happens n p t (Give rank to count) q u → PictureInvariant n p t → PictureInvariant n q u
give_keeps_invariant n p t rank to count q u (acts, pair, busy, asked, became, same) held =
    let x : RankPicture = gave (p rank) rank to in
    let y : RankPicture = record (p to) { mailbox = filled_by rank } in
    let mid : Picture = put p rank x in
    let here : q rank ≡ x = became rank ∙ put_elsewhere mid to y rank pair.1 ∙ put_here p rank x in
    along n q t u same (kept_by_giving (Active n p) (BlackRank n p) (Active n q) (BlackRank n q) t rank to (acts.0, inl busy)
    (λ k active. dite (ℕ_discrete k to) (λ e. inr e)
    (λ ne. inl (
      active.0,
      (let unchanged : q k ≡ mid k = became k ∙ put_elsewhere mid to y k ne in
          put_all (λ j z. IsActive z → IsActive (p j)) p rank x k (λ a. inl busy) (λ ne2 a. a) (subst IsActive unchanged active.1)),
    )))
    (λ k dark. (
      dark.0,
      holds_of_all (λ j z. (p j).colour ≡ Black → z.colour ≡ Black) mid to y q became k
          (λ d. d) (λ ne d. put_all (λ j z. (p j).colour ≡ Black → z.colour ≡ Black) p rank x k
          (λ d. stays_black (nat_lt rank to) (p rank).colour d) (λ ne2 d. d) d) dark.1,
    ))
    (λ higher. (acts.0, subst (λ (z : RankPicture). z.colour ≡ Black) (sym here) (grind (arith, nat_tests))))
    held)

pub refuse_keeps_invariant : (n : ℕ) (p : Picture) (t : Token) (rank to : ℕ) (q : Picture) (u : Token)
    → Happens n p t (Refuse rank to) q u → PictureInvariant n p t → PictureInvariant n q u
refuse_keeps_invariant n p t rank to q u (acts, pair, asked, became, same) held =
    along n q t u same (calm_change_keeps_invariant n p t to _ q became (λ a. ⊎_elim (λ b. inl b) (λ f. cc) a) (λ d. d) held)

pub take_keeps_invariant : (n : ℕ) (p : Picture) (t : Token) (rank from count : ℕ) (q : Picture) (u : Token)
    → Happens n p t (Take rank from count) q u → PictureInvariant n p t → PictureInvariant n q u
take_keeps_invariant n p t rank from count q u (acts, pair, filled, became, same) held =
    along n q t u same (calm_change_keeps_invariant n p t rank _ q became (λ a. inr (ap is_filled filled)) (λ d. d) held)

pub take_none_keeps_invariant : (n : ℕ) (p : Picture) (t : Token) (rank from : ℕ) (q : Picture) (u : Token)
    → Happens n p t (TakeNone rank from) q u → PictureInvariant n p t → PictureInvariant n q u
take_none_keeps_invariant n p t rank from q u (acts, pair, refused, became, same) held =
    along n q t u same (calm_change_keeps_invariant n p t rank _ q became (λ a. ⊎_elim (λ b. inl b) (λ f. cc) a) (λ d. d) held)

pub pass_keeps_invariant : (n : ℕ) (p : Picture) (t : Token) (rank : ℕ) (colour : Colour) (q : Picture) (u : Token)
    → Happens n p t (Pass rank colour) q u → PictureInvariant n p t → PictureInvariant n q u
pass_keeps_invariant n p t rank colour q u (acts, above, free, vacant, tried, (c, here, mix), became, same) held =
    let up : rank ≡ (rank - 1) + 1 = omega arith in
    let x : RankPicture = record (p rank) { colour = White } in
    along n q (At (rank - 1) colour) u same (kept_by_passing (Active n p) (BlackRank n p) (Active n q) (BlackRank n q) (rank - 1) c colour
    (λ active. idle (p rank) free vacant (subst (λ (k : ℕ). IsActive (p k)) (sym up) active.1))
    (λ k active. (active.0, holds_of_all (λ j y. IsActive y → IsActive (p j)) p rank x q became k (λ a. a) (λ ne a. a) active.1))
    (λ k ne dark. (dark.0, subst (λ (y : RankPicture). y.colour ≡ Black) (sym (became k ∙ put_elsewhere p rank x k (λ e. ne (e ∙ up)))) dark.1))
    (λ dark. mix ∙ darker_left (p rank).colour c (subst (λ (k : ℕ). (p k).colour ≡ Black) (sym up) dark.1))
    (λ dark. mix ∙ darker_right (p rank).colour c dark)
    (subst (λ (k : ℕ). PictureInvariant n p (At k c)) up (subst (PictureInvariant n p) here held)))

-- from every picture, also from one without the invariant
pub restart_gives_invariant : (n : ℕ) (p : Picture) (t : Token) (rank : ℕ) (q : Picture) (u : Token) → Happens n p t (Restart rank) q u → PictureInvariant n q u
restart_gives_invariant n p t rank q u (acts, first, vacant, free, black, became, same) =
    along n q (At (n - 1) White) u same
    (holds_at_last_rank (Active n q) (BlackRank n q) (Active n q) (BlackRank n q) n (n - 1) White (let h = acts.0 in
    omega arith) (λ r above active. (let h = active.0 in absurd (omega arith))))

pub conclude_keeps_invariant : (n : ℕ) (p : Picture) (t : Token) (rank : ℕ) (q : Picture) (u : Token)
    → Happens n p t (Conclude rank) q u → PictureInvariant n p t → PictureInvariant n q u
conclude_keeps_invariant n p t rank q u (acts, first, free, vacant, tried, here, pale, became, same) held =
    along n q Over u same (quiet_where_rank_0_concludes (Active n p) (BlackRank n p) (Active n q) (BlackRank n q) White (λ e. cc)
    (λ active. idle (p rank) free vacant (subst (λ (k : ℕ). IsActive (p k)) (sym first) active.1))
    (λ dark. black_is_not_white (p rank).colour (subst (λ (k : ℕ). (p k).colour ≡ Black) (sym first) dark.1) pale)
    (λ k active. (
      active.0,
      holds_of_all (λ j y. IsActive y → IsActive (p j)) p rank (record (p rank) { ended = true }) q became k (λ a. a)
          (λ ne a. a) active.1,
    ))
    (subst (λ (k : ℕ). PictureInvariant n p (At k White)) first (subst (PictureInvariant n p) here held)))

pub see_over_keeps_invariant : (n : ℕ) (p : Picture) (t : Token) (rank : ℕ) (q : Picture) (u : Token)
    → Happens n p t (SeeOver rank) q u → PictureInvariant n p t → PictureInvariant n q u
see_over_keeps_invariant n p t rank q u (acts, over, became, same) held =
    along n q t u same (calm_change_keeps_invariant n p t rank _ q became (λ a. a) (λ d. d) held)

pub event_keeps_invariant : (n : ℕ) (p : Picture) (t : Token) (event : Event) (q : Picture) (u : Token)
    → Happens n p t event q u → PictureInvariant n p t → PictureInvariant n q u
event_keeps_invariant n p t (Handle rank path kids) q u happens held = handle_keeps_invariant n p t rank path kids q u happens held
event_keeps_invariant n p t (Ask rank victim) q u happens held = ask_keeps_invariant n p t rank victim q u happens held
event_keeps_invariant n p t (Give rank to count) q u happens held = give_keeps_invariant n p t rank to count q u happens held
event_keeps_invariant n p t (Refuse rank to) q u happens held = refuse_keeps_invariant n p t rank to q u happens held
event_keeps_invariant n p t (Take rank from count) q u happens held = take_keeps_invariant n p t rank from count q u happens held
event_keeps_invariant n p t (TakeNone rank from) q u happens held = take_none_keeps_invariant n p t rank from q u happens held
event_keeps_invariant n p t (Pass rank colour) q u happens held = pass_keeps_invariant n p t rank colour q u happens held
event_keeps_invariant n p t (Restart rank) q u happens held = restart_gives_invariant n p t rank q u happens
event_keeps_invariant n p t (Conclude rank) q u happens held = conclude_keeps_invariant n p t rank q u happens held
event_keeps_invariant n p t (SeeOver rank) q u happens held = see_over_keeps_invariant n p t rank q u happens held
