-- A text that does not begin with `-`.
use Rattle.tool_words.proofs.Prelude.{◌≡◌, ◌≢◌, ℕ, true, false, List, [], ◌∷◌, refl, ap, arith, None, ◌==◌, slice_index, FindsCharPrefix, strip_prefix_char}
use Rattle.tool_words.proofs.Prelude.{nat_tests}

the_dash : (b : ℕ) → (b == 45) ≡ true → b ≡ 45
the_dash b e = grind (arith, nat_tests)

first : (text : List ℕ) → ((rest : List ℕ) → text ≢ 45 ∷ rest) → (slice_index text 0 == 45) ≡ false
first [] h = refl
first (b ∷ text) h =
    elim (b == 45) as (λ t. (b == 45) ≡ t → t ≡ false) [
      | true ↦ λ e. absurd (h text (ap (λ c. c ∷ text) (the_dash b e)))
      | false ↦ λ e. refl
    ] refl

pub no_dash : (text : List ℕ) → FindsCharPrefix 45 text None → (slice_index text 0 == 45) ≡ false
no_dash text h = first text (strip_prefix_char 45 text None h (omega arith))
