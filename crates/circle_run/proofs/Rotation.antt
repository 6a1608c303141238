-- Who has the turns that come after turn number k, where turn number k is that of rank k mod n.
use Rattle.circle_run.proofs.Prelude.{◌≡◌, ℕ, suc, ◌+◌, ◌-◌, ◌*◌, ◌/◌, ◌%◌, ◌<◌, ◌≤◌, ◌≢◌, ⊎_elim, sym, ap, ◌∙◌, arith, mul-suc, mul-add-mod_self_left}
use Rattle.circle_run.proofs.Prelude.{mod-eq_of_lt, div-add-mod, mod-lt, cases_lt}

-- the turn that the rank s has next after turn number k, and whose turns come until then
pub low : (n k x : ℕ) → k % n + x < n → (k + x) % n ≡ k % n + x
low n k x h =
    ap (λ (q : ℕ). q % n) (let e : n * (k / n) + k % n ≡ k = div-add-mod k n in let f : k + x ≡ n * (k / n) + (k % n + x) = omega arith in f)
    ∙ mul-add-mod_self_left n (k / n) (k % n + x) ∙ mod-eq_of_lt h

pub high : (n k x : ℕ) → n ≤ k % n + x → k % n + x - n < n → (k + x) % n ≡ k % n + x - n
high n k x h below =
    ap (λ (q : ℕ). q % n) (let e : n * (k / n) + k % n ≡ k = div-add-mod k n in
    let m : n * suc (k / n) ≡ n * (k / n) + n = mul-suc n (k / n) in
    let f : k + x ≡ n * suc (k / n) + (k % n + x - n) = omega arith in f)
    ∙ mul-add-mod_self_left n (suc (k / n)) (k % n + x - n) ∙ mod-eq_of_lt below

pub never_own : (n k x : ℕ) → 0 < n → 0 < x → x < n → (k + x) % n ≢ k % n
never_own n k x some more below e =
    let r : k % n < n = mod-lt k {m = n} some in
    ⊎_elim
    (λ h. (let f = low n k x h in absurd (omega arith)))
    (λ h. (let f = high n k x h (omega arith) in absurd (omega arith)))
    (cases_lt (k % n + x) n)

pub record NextTurn (n k s : ℕ) : Type 0 where
  pub wait : ℕ
  pub own : (suc k + wait) % n ≡ s
  pub other : (j : ℕ) → j ≤ wait → (suc k + j) % n ≢ k % n

pub next_turn : (n k s : ℕ) → 0 < n → s < n → s ≢ k % n → NextTurn n k s
next_turn n k s some below ne =
    let r : k % n < n = mod-lt k {m = n} some in
    let shift : (j : ℕ) → suc k + j ≡ k + suc j = λ j. omega arith in
    let others : (i : ℕ) → suc i < n → (j : ℕ) → j ≤ i → (suc k + j) % n ≢ k % n =
    λ i h j le e. never_own n k (suc j) some (omega arith) (omega arith) (ap (λ (q : ℕ). q % n) (sym (shift j)) ∙ e) in
    ⊎_elim
    (λ above. (let i : ℕ = s - k % n - 1 in record {
      wait = i;
      own = ap (λ (q : ℕ). q % n) (shift i) ∙ low n k (suc i) (omega arith) ∙ (let e : k % n + suc i ≡ s = omega arith in e);
      other = others i (omega arith);
    }))
    (λ under. (let i : ℕ = s + n - k % n - 1 in record {
      wait = i;
      own = ap (λ (q : ℕ). q % n) (shift i) ∙ high n k (suc i) (omega arith) (omega arith) ∙ (let e : k % n + suc i - n ≡ s = omega arith in e);
      other = others i (omega arith);
    }))
    (cases_lt (k % n) s)
