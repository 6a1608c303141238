-- No item failed where none is counted.
use Rattle.level_work.proofs.Prelude.{◌≡◌, ℕ, true, false, cond, List, [], ◌∷◌, refl, ap, arith, AllByRecursion, count_by, sum_by-cons, is_failed, Fate}

pub unfailed : (rows : List (List ℕ × Fate)) → count_by (λ row. is_failed row.1) rows ≡ 0 → AllByRecursion (λ row. is_failed row.1 ≡ false) rows
unfailed [] e = tt
unfailed (row ∷ rows) e =
    let here = sum_by-cons (λ (r : List ℕ × Fate). cond (is_failed r.1) 1 0) row rows in
    elim (is_failed row.1) as (λ b. is_failed row.1 ≡ b → AllByRecursion (λ row. is_failed row.1 ≡ false) (row ∷ rows)) [
      | true ↦ λ is. absurd (omega (arith, e, here, ap {B = ℕ} (λ b. cond b 1 0) is))
      | false ↦ λ off. (off, unfailed rows (omega (arith, e, here, ap {B = ℕ} (λ b. cond b 1 0) off)))
    ] refl
