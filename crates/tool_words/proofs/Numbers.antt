-- Numbers as texts of digits.
use Rattle.tool_words.proofs.Prelude.{◌≡◌, ℕ, ◌<◌, ◌≤◌, ◌^◌, true, List, length, refl, arith, rules, Some, None, Err, is_ascii_digit, list_all, digits_value}
use Rattle.tool_words.proofs.Prelude.{ParsesUnsigned, nat_tests, IsNumeralModel, numerals_by_value, parse_digits, number_in}

digits : IsNumeralModel (λ text. list_all is_ascii_digit text ≡ true) (digits_value 10)
digits = numerals_by_value _ (search rules)

pub number_within : (least most : ℕ) (text : List ℕ) (n : ℕ) → number_in least most text ≡ Some n → (least ≤ n) × (n ≤ most)
number_within least most text n e = (grind (arith, nat_tests), grind (arith, nat_tests))

number_of_text : (least most : ℕ) (text : List ℕ) (n : ℕ) → number_in least most text ≡ Some n → (0 < length text) × (n ≡ digits_value 10 text)
number_of_text least most text n e = (grind (arith, nat_tests), grind (arith, nat_tests))

-- what does not fit 64 bits is above every limit
pub not_parsed : {E : Type 0} (least most : ℕ) (text : List ℕ) (e : E) →
    most < 2 ^ 64 → list_all is_ascii_digit text ≡ true → ParsesUnsigned 64 10 text (Err e) → number_in least most text ≡ None
not_parsed least most text e small all h =
    elim (number_in least most text) as (λ o. number_in least most text ≡ o → o ≡ None) [
      | Some n ↦ λ is.
          let within = number_within least most text n is in
          let told = number_of_text least most text n is in
          absurd (parse_digits digits 64 text (Err e) h all (told.0, omega (arith, within.1, told.1)))
      | None ↦ λ is. refl
    ] refl
