-- A number's digits, read one by one.
use Rattle.whole_lines.proofs.Prelude.{◌≡◌, ◌≢◌, ℕ, ◌+◌, ◌-◌, ◌*◌, ◌<◌, ◌≤◌, ◌^◌, true, false, eqb, List, length, get_or, take, drop, Some, refl, ap, sym, ◌∙◌}
use Rattle.whole_lines.proofs.Prelude.{arith, digits_value, AllDigits, decimal, is_ascii_digit, nat_tests, decimal-digits_value, digits_more, digits_value_more}
use Rattle.whole_lines.proofs.Prelude.{digits_value-lt, length-take-le, get_or-take, digit_value_digit, IsNumeralModel, digit_at, pow-le-pow_right, Digits, cut}
use Rattle.whole_lines.proofs.Prelude.{number_of, ◌>>=◌, IsNumberWord, AreDigits}
use Rattle.whole_lines.specs.Words.{word_at}
use Rattle.whole_lines.proofs.Words.{cut_at}
use Rattle.whole_lines.proofs.Numbers.{number_again}

own : IsNumeralModel (AllDigits 10) (digits_value 10)
own = record { to = λ ds p. p; from = λ ds p. p; same = λ ds p. refl }

-- ---- one more digit

-- of fewer than 19 digits and one more the number has 64 bits
pub digits_fit : (text : List ℕ) (len value : ℕ) → len < 19 → len ≤ length text → AllDigits 10 (take len text) → value ≡ digits_value 10 (take len text) →
    value < 10 ^ 18
digits_fit text len value few within each is =
    let lt = digits_value-lt 10 (take len text) each in
    let long : length (take len text) ≡ len = length-take-le len text within in
    let base : 0 < 10 = omega arith in
    let most : len ≤ 18 = omega arith in
    let power : 10 ^ len ≤ 10 ^ 18 = pow-le-pow_right {n = 10} base most in
    omega (arith, ap (λ k. 10 ^ k) long)

is_digit : (c : ℕ) → is_ascii_digit c ≡ true → (48 ≤ c) × (c ≤ 57)
is_digit c e = grind (arith, nat_tests)

pub next_each : (text : List ℕ) (len : ℕ) → len < length text → AllDigits 10 (take len text) → is_ascii_digit (get_or text len 0) ≡ true →
    AllDigits 10 (take (len + 1) text)
next_each text len lt each e =
    let byte = is_digit (get_or text len 0) e in
    digits_more 10 text len lt each (omega (arith, digit_value_digit (get_or text len 0) byte))

pub next_value : (text : List ℕ) (len value : ℕ) → len < length text → is_ascii_digit (get_or text len 0) ≡ true → value ≡ digits_value 10 (take len text) →
    value * 10 + (get_or text len 0 - 48) ≡ digits_value 10 (take (len + 1) text)
next_value text len value lt e is =
    let byte = is_digit (get_or text len 0) e in
    omega (arith, is, digits_value_more 10 text len lt, digit_value_digit (get_or text len 0) byte)

-- ---- the word

-- a number's word, with the space behind it
number_word : (text : List ℕ) (digits : Digits) → AreDigits text digits → 0 < digits.len → digits.len < length text →
    (get_or text 0 0 ≡ 48 → digits.len ≡ 1) → number_of (take digits.len text) ≡ Some digits.value
number_word text digits are some short lead =
    let word = take digits.len text in
    let long : length word ≡ digits.len = length-take-le digits.len text are.within in
    let first : get_or word 0 0 ≡ get_or text 0 0 = get_or-take digits.len text 0 0 some in
    let lt = digits_value-lt 10 word are.each in
    let base : 0 < 10 = omega arith in
    let most : length word ≤ 19 = omega (arith, long, are.few) in
    let power : 10 ^ length word ≤ 10 ^ 19 = pow-le-pow_right {n = 10} base most in
    let small : digits_value 10 word < 2 ^ 64 = omega arith in
    let same : decimal (digits_value 10 word) ≡ word =
    decimal-digits_value own word are.each (omega (arith, long)) (λ zero. long ∙ lead (sym first ∙ zero)) small in
    ap number_of (sym same) ∙ number_again (digits_value 10 word) small ∙ ap Some (sym are.value)

cut_word : (text : List ℕ) (digits : Digits) → AreDigits text digits → digits.len < length text → get_or text digits.len 0 ≡ 32 →
    cut 32 text ≡ Some (take digits.len text, drop (digits.len + 1) text)
cut_word text digits are short space = cut_at 32 text digits.len short space before
  where
    before : (j : ℕ) → j < digits.len → eqb (get_or text j 0) 32 ≡ false
    before j below =
        let long : length (take digits.len text) ≡ digits.len = length-take-le digits.len text are.within in
        let byte = digit_at (take digits.len text) j are.each (omega (arith, long)) in
        let same : get_or (take digits.len text) j 0 ≡ get_or text j 0 = get_or-take digits.len text j 0 below in
        grind (arith, nat_tests, byte.0, byte.1, same)

pub ended : (text : List ℕ) (digits : Digits) → AreDigits text digits → digits.len ≢ 0 → digits.len < length text → get_or text digits.len 0 ≡ 32 →
    (get_or text 0 0 ≡ 48 → digits.len ≤ 1) → IsNumberWord text digits
unfolding word_at
ended text digits are some short space lead =
    let number = number_word text digits are (omega arith) short (λ zero. omega (arith, lead zero)) in
    let cuts = cut_word text digits are short space in
    record {
      short = short;
      number = ap (λ o. o >>= λ word. number_of word.0 >>= λ value. Some (value, word.1)) cuts
          ∙ ap (λ o. o >>= λ value. Some (value, drop (digits.len + 1) text)) number;
    }
