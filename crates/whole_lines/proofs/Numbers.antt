-- A number's word and its reading, and a path's.
use Rattle.whole_lines.proofs.Prelude.{◌≡◌, ℕ, zero, suc, ◌<◌, ◌≤◌, ◌^◌, Bool, true, false, cond, ltb, ◌&&◌, List, length, get_or, eqb, Option, Some, None}
use Rattle.whole_lines.proofs.Prelude.{Result, Ok, Err, refl, ap, sym, ◌∙◌, subst, arith, IsUtf8, is_utf8, bytes_eq, digits_value, ParsesUnsigned, AllDigits}
use Rattle.whole_lines.proofs.Prelude.{decimal, bytes_decides, lt-ltb, ltb-true, nat_tests, recursion_from_All, get_or_default_zero, decimal_is_IsNumeral}
use Rattle.whole_lines.proofs.Prelude.{decimal_digit, decimal_nonempty, first_decimal, IsAscii-decimal, decimal-digits_value, IsUtf8-from_ascii}
use Rattle.whole_lines.proofs.Prelude.{is_utf8-from_IsUtf8, IsUtf8-from_is_utf8, IsNumeralModel, digit_at, parse_plain, result_ok, OkIff, reading, ok_of}
use Rattle.whole_lines.proofs.Prelude.{LeadsNumber}
use Rattle.whole_lines.specs.Words.{number_of, path_from}
use Rattle.whole_lines.proofs.Words.{IsFree}

pub number_again : (n : ℕ) → n < 2 ^ 64 → number_of (decimal n) ≡ Some n
unfolding number_of
number_again n lt =
    let value : digits_value 10 (decimal n) ≡ n = (decimal_is_IsNumeral n lt).1 in
    let same : bytes_eq (decimal n) (decimal (digits_value 10 (decimal n))) ≡ true =
    (bytes_decides (decimal n) (decimal (digits_value 10 (decimal n)))).1 (ap decimal (sym value)) in
    let small : ltb (digits_value 10 (decimal n)) (2 ^ 64) ≡ true = lt-ltb _ _ (rw value lt) in
    ap (λ b. cond (b && ltb (digits_value 10 (decimal n)) (2 ^ 64)) (Some (digits_value 10 (decimal n))) None) same
    ∙ ap (λ b. cond b (Some (digits_value 10 (decimal n))) None) small
    ∙ ap Some value

pub record IsNumber (word : List ℕ) (n : ℕ) : Type 0 where
  pub text : word ≡ decimal n
  pub small : n < 2 ^ 64

pub number_takes : (word : List ℕ) (n : ℕ) → number_of word ≡ Some n → IsNumber word n
unfolding number_of
number_takes word n e = by_tests (bytes_eq word (decimal v)) (ltb v (2 ^ 64)) refl refl e
  where
    v : ℕ
    v = digits_value 10 word

    by_tests : (a b : Bool) → bytes_eq word (decimal v) ≡ a → ltb v (2 ^ 64) ≡ b → cond (a && b) (Some v) None ≡ Some n → IsNumber word n
    by_tests true true p q e =
        let same : v ≡ n = cc in
        record { text = (bytes_decides word (decimal v)).0 p ∙ ap decimal same; small = subst (λ n. n < 2 ^ 64) same (ltb-true v (2 ^ 64) q) }
    by_tests true false p q e = absurd cc
    by_tests false b p q e = absurd cc

-- a word that is no number's
pub number_none : (word : List ℕ) → ((n : ℕ) → n < 2 ^ 64 → word ≡ decimal n → ⊥) → number_of word ≡ None
number_none word off = by_value (number_of word) refl
  where
    by_value : (o : Option ℕ) → number_of word ≡ o → o ≡ None
    by_value None e = refl
    by_value (Some n) e = let is = number_takes word n e in absurd (off n is.small is.text)

pub first_digit : (n : ℕ) → n < 2 ^ 64 → (48 ≤ get_or (decimal n) 0 0) × (get_or (decimal n) 0 0 ≤ 57)
first_digit n lt = let d = digit_at (decimal n) 0 (decimal_is_IsNumeral n lt).0.1 (decimal_is_IsNumeral n lt).0.0 in (omega (arith, d), omega (arith, d))

pub none_empty : (word : List ℕ) → length word ≡ 0 → number_of word ≡ None
none_empty word e = number_none word (λ n lt is. let some = decimal_nonempty n lt in let len : length word ≡ length (decimal n) = ap length is in omega arith)

pub none_plus : (word : List ℕ) → get_or word 0 0 ≡ 43 → number_of word ≡ None
none_plus word e = number_none word
    (λ n lt is. let d = first_digit n lt in let same : get_or word 0 0 ≡ get_or (decimal n) 0 0 = ap (λ w. get_or w 0 0) is in omega arith)

pub none_zero : (word : List ℕ) → get_or word 0 0 ≡ 48 → (length word ≡ 1 → ⊥) → number_of word ≡ None
none_zero word e long = number_none word (λ n lt is. by_size n lt is)
  where
    by_size : (n : ℕ) → n < 2 ^ 64 → word ≡ decimal n → ⊥
    by_size zero lt is = long (ap length is ∙ ap length (decimal_digit 0 (omega arith)))
    by_size (suc n) lt is = let big = first_decimal (suc n) (omega arith) lt in
        let same : get_or word 0 0 ≡ get_or (decimal (suc n)) 0 0 = ap (λ w. get_or w 0 0) is in omega arith

pub ruleset no_lead = (none_empty, none_plus, none_zero)

pub no_text : (word : List ℕ) → (IsUtf8 word → ⊥) → number_of word ≡ None
no_text word off = number_none word (λ n lt is. off (subst IsUtf8 (sym is) (IsUtf8-from_ascii (decimal n) (IsAscii-decimal n lt))))

own : IsNumeralModel (AllDigits 10) (digits_value 10)
own = record { to = λ ds p. p; from = λ ds p. p; same = λ ds p. refl }

-- digits are none of the bytes below them
pub decimal_free : (c n : ℕ) → c < 48 → n < 2 ^ 64 → IsFree c (decimal n)
decimal_free c n low lt = recursion_from_All (λ b. eqb b c ≡ false) (decimal n) (λ k d below. off k d below)
  where
    apart : (b : ℕ) → 48 ≤ b → eqb b c ≡ false
    apart b le = grind (arith, nat_tests)

    off : (k d : ℕ) → k < length (decimal n) → eqb (get_or (decimal n) k d) c ≡ false
    off k d below =
        let digit = digit_at (decimal n) k (decimal_is_IsNumeral n lt).0.1 below in
        let same : get_or (decimal n) k d ≡ get_or (decimal n) k 0 = get_or_default_zero (decimal n) k d below in
        apart (get_or (decimal n) k d) (omega (arith, digit))

-- a path's word
pub text_path : (word : List ℕ) → IsUtf8 word → path_from word ≡ ok_of (reading word)
unfolding path_from
text_path word is = ap (λ b. cond b (ok_of (reading word)) None) (is_utf8-from_IsUtf8 word is)

pub no_path : (word : List ℕ) → (IsUtf8 word → ⊥) → path_from word ≡ None
unfolding path_from
no_path word off = by_test (is_utf8 word) refl
  where
    by_test : (b : Bool) → is_utf8 word ≡ b → cond b (ok_of (reading word)) None ≡ None
    by_test true e = absurd (off (IsUtf8-from_is_utf8 word e))
    by_test false e = refl

pub ruleset path_texts = (text_path, no_path)

-- what `parse` answers of a word that leads a number
pub parsed_is : {E : Type 0} (word : List ℕ) (r : Result ℕ E) → LeadsNumber word → ParsesUnsigned 64 10 word r → result_ok r ≡ number_of word
parsed_is {E} word r leads parses = by_result r parses (parse_plain own 64 word r parses leads.plain)
  where
    by_result : (r : Result ℕ E) → ParsesUnsigned 64 10 word r →
        OkIff r (AllDigits 10 word × (0 < length word) × (digits_value 10 word < 2 ^ 64)) (digits_value 10 word) → result_ok r ≡ number_of word
    by_result (Ok n) parses h =
        let text : decimal (digits_value 10 word) ≡ word = decimal-digits_value own word h.0.0 leads.some leads.zero h.0.2 in
        ap Some h.1 ∙ sym (number_again (digits_value 10 word) h.0.2) ∙ ap number_of text
    by_result (Err e) parses h = sym
        (number_none word (λ n lt is. let numeral = decimal_is_IsNumeral n lt in
        h (subst (λ w. AllDigits 10 w × (0 < length w) × (digits_value 10 w < 2 ^ 64)) (sym is)
        (numeral.0.1, numeral.0.0, subst (λ m. m < 2 ^ 64) (sym numeral.1) lt))))
