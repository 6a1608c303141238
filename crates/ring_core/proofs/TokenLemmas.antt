-- Each kind of change keeps the token invariant. `active` and `black` are those before the change, `active'` and `black'` those after it.
use Rattle.ring_core.proofs.Prelude.{◌≡◌, ℕ, ◌+◌, ◌<◌, ◌≤◌, ◌≢◌, ◌⊎◌, inl, inr, ⊎_elim, subst, arith, dite, ℕ_discrete, dec_le, Colour, Black, Token, At, Over}
use Rattle.ring_core.proofs.Prelude.{Quiet, TokenInvariant}

module _ (active black active' black' : ℕ → Type 0) where
  -- nobody becomes active, and nobody is whitened
  pub kept_where_nobody_starts : (token : Token) → ((r : ℕ) → active' r → active r) → ((r : ℕ) → black r → black' r)
      → TokenInvariant active black token → TokenInvariant active' black' token
  kept_where_nobody_starts (At p c) calmer darker held =
      ⊎_elim (λ none. inl (λ r above a. none r above (calmer r a)))
      (λ other. inr (⊎_elim (λ some. inl (some.0, some.1, darker some.0 some.2)) (λ dark. inr dark) other)) held
  kept_where_nobody_starts Over calmer darker none = λ r a. none r (calmer r a)

  -- the active rank `from` makes `to` active, and turns black where `to` is higher
  pub kept_by_giving : (token : Token) (from to : ℕ) → active from → ((r : ℕ) → active' r → active r ⊎ (r ≡ to))
      → ((r : ℕ) → black r → black' r) → (from < to → black' from)
      → TokenInvariant active black token → TokenInvariant active' black' token
  kept_by_giving (At p c) from to busy busier darker blackens held =
      ⊎_elim
      (λ none. dite (dec_le to p)
      (λ low. inl (λ r above a. ⊎_elim (λ was. none r above was) (λ e. absurd (omega arith)) (busier r a)))
      (λ high. dite (dec_le from p)
      (λ below. inr (inl (from, below, blackens (omega arith))))
      (λ above. absurd (none from (omega arith) busy))))
      (λ other. inr (⊎_elim (λ some. inl (some.0, some.1, darker some.0 some.2)) (λ dark. inr dark) other)) held
  kept_by_giving Over from to busy busier darker blackens none = absurd (none from busy)

  -- the idle rank p + 1 passes the token to p in the darker of the two colours, and is white from then on
  pub kept_by_passing : (p : ℕ) (c c' : Colour) → ¬ active (p + 1) → ((r : ℕ) → active' r → active r)
      → ((r : ℕ) → r ≢ p + 1 → black r → black' r) → (black (p + 1) → c' ≡ Black) → (c ≡ Black → c' ≡ Black)
      → TokenInvariant active black (At (p + 1) c) → TokenInvariant active' black' (At p c')
  kept_by_passing p c c' idle calmer darker mine theirs held =
      ⊎_elim
      (λ none. inl (λ r above a. dite (ℕ_discrete r (p + 1)) (λ e. idle (subst active e (calmer r a))) (λ ne. none r (omega arith) (calmer r a))))
      (λ other. inr (⊎_elim
      (λ some. dite (ℕ_discrete some.0 (p + 1))
      (λ e. inr (mine (subst black e some.2)))
      (λ ne. inl (some.0, (let h = some.1 in omega arith), darker some.0 ne some.2)))
      (λ dark. inr (theirs dark)) other)) held

  -- the token lies at the last rank, above which there is nobody
  pub holds_at_last_rank : (n p : ℕ) (c : Colour) → p + 1 ≡ n → ((r : ℕ) → n ≤ r → ¬ active' r) → TokenInvariant active' black' (At p c)
  holds_at_last_rank n p c last nobody = inl (λ r above. nobody r (omega arith))

  -- rank 0 is idle and white, and has the token white
  pub quiet_where_rank_0_concludes : (c : Colour) → c ≢ Black → ¬ active 0 → ¬ black 0 → ((r : ℕ) → active' r → active r)
      → TokenInvariant active black (At 0 c) → Quiet active'
  quiet_where_rank_0_concludes c white idle pale calmer held =
      ⊎_elim
      (λ none r a. dite (ℕ_discrete r 0) (λ e. idle (subst active e (calmer r a))) (λ ne. none r (omega arith) (calmer r a)))
      (λ other r a. ⊎_elim (λ some. pale (let h = some.1 in let e : some.0 ≡ 0 = omega arith in subst black e some.2)) (λ dark. white dark) other) held
