-- Numbers of progress.
use Rattle.circle_run.proofs.Prelude.{◌≡◌, ℕ, suc, ◌+◌, ◌-◌, ◌<◌, ◌≤◌, refl, ap, ◌∙◌, arith, List, [], ◌∷◌, ◌++◌, length, get_or, Rises, Thousands, newest}

pub newest_at : (from : ℕ) (xs : List ℕ) → 0 < length xs → get_or xs (length xs - 1) 0 ≡ newest from xs
newest_at from [] h = absurd (omega arith)
newest_at from (x ∷ []) h = (let e : length (x ∷ []) - 1 ≡ 0 = omega arith in ap (λ (i : ℕ). get_or (x ∷ []) i 0) e)
newest_at from (x ∷ y ∷ ys) h =
    let e : length (x ∷ y ∷ ys) - 1 ≡ suc (length (y ∷ ys) - 1) = omega arith in
    ap (λ (i : ℕ). get_or (x ∷ y ∷ ys) i 0) e ∙ newest_at x (y ∷ ys) (omega arith)

pub newest_push : (from : ℕ) (xs : List ℕ) (x : ℕ) → newest from (xs ++ x ∷ []) ≡ x
newest_push from [] x = refl
newest_push from (y ∷ ys) x = newest_push y ys x

pub rises_push : (from : ℕ) (xs : List ℕ) (x : ℕ) → Rises from xs → newest from xs + 1000 ≤ x → Rises from (xs ++ x ∷ [])
rises_push from [] x rises h = (h, tt)
rises_push from (y ∷ ys) x rises h = (rises.0, rises_push y ys x rises.1 h)

pub thousands_push : (from : ℕ) (xs : List ℕ) (x : ℕ) → Thousands from xs → x ≡ newest from xs + 1000 → Thousands from (xs ++ x ∷ [])
thousands_push from [] x all h = (h, tt)
thousands_push from (y ∷ ys) x all h = (all.0, thousands_push y ys x all.1 h)
