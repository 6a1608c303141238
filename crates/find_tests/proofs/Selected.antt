-- Without a test each entry that has a stat is selected.
use Rattle.find_tests.proofs.Prelude.{◌≡◌, ℕ, ◌+◌, Bool, true, false, cond, List, [], ◌∷◌, length, filter, ap, ap₂, sym, refl, ◌∙◌, arith, None, Some, is_some}
use Rattle.find_tests.proofs.Prelude.{count_by, sum_by-cons, count_by-le-length, Entry, is_selected, meets_all}

-- where a test holds of as many elements as there are, it holds of all
filter_whole : {X : Type 0} (p : X → Bool) (xs : List X) → count_by p xs ≡ length xs → filter p xs ≡ xs
filter_whole p [] many = refl
filter_whole p (x ∷ xs) many =
    let few = count_by-le-length p xs in
    let Step : Bool → Type 0 = λ b. cond b 1 0 + count_by p xs ≡ length (x ∷ xs) → cond b (x ∷ filter p xs) (filter p xs) ≡ x ∷ xs in
    let step : Step (p x) = elim (p x) as Step [
      | true ↦ λ e. ap (λ ys. x ∷ ys) (filter_whole p xs (omega (arith, e)))
      | false ↦ λ e. absurd (omega (arith, e, few))
    ] in
    step (sym (sum_by-cons (λ y. cond (p y) 1 0) x xs) ∙ many)

by_stat : (now : ℕ) (e : Entry) → is_selected [] now e ≡ is_some e.stat
by_stat now e = elim (e.stat) as (λ s. meets_all [] now e.path s ≡ is_some s) [ None ↦ refl | Some x ↦ refl ]

same_count : (now : ℕ) (es : List Entry) → count_by (is_selected [] now) es ≡ count_by (λ e. is_some e.stat) es
same_count now [] = refl
same_count now (e ∷ es) =
    sum_by-cons (λ x. cond (is_selected [] now x) 1 0) e es
    ∙ ap₂ (λ b n. cond b 1 0 + n) (by_stat now e) (same_count now es)
    ∙ sym (sum_by-cons (λ x. cond (is_some x.stat) 1 0) e es)

pub all_selected : (now : ℕ) (es : List Entry) → count_by (λ e. is_some e.stat) es ≡ length es → filter (is_selected [] now) es ≡ es
all_selected now es many = filter_whole (is_selected [] now) es (same_count now es ∙ many)
