-- The answers of the crate's private functions. Only their clauses cite them, and no public clause needs them.
use Rattle.std.specs.Prelude.{◌≡◌, ◌≢◌, ℕ, ◌+◌, ◌<◌, ◌≤◌, List, length, take, drop, slice_index, Some}
use Rattle.std.specs.Str.Parse.{AllDigits, digits_value}
use Rattle.whole_lines.specs.declared.reading.Digits.{Digits}
use Rattle.whole_lines.specs.Words.{number_of, word_at}

-- a word begins as a number without leading zeros and without a sign does
pub record LeadsNumber (word : List ℕ) : Type 0 where
  pub some : 0 < length word
  pub plain : slice_index word 0 ≢ 43
  pub zero : slice_index word 0 ≡ 48 → length word ≡ 1

-- the number that the first word of a text writes, which has this number of digits
pub record IsNumberWord (text : List ℕ) (digits : Digits) : Type 0 where
  pub short : digits.len < length text
  pub number : word_at number_of text ≡ Some (digits.value, drop (digits.len + 1) text)

-- the first bytes of a text are digits, nineteen at most, and write a number
pub record AreDigits (text : List ℕ) (digits : Digits) : Type 0 where
  pub few : digits.len ≤ 19
  pub within : digits.len ≤ length text
  pub each : AllDigits 10 (take digits.len text)
  pub value : digits.value ≡ digits_value 10 (take digits.len text)
