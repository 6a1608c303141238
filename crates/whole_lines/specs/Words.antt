-- Reading a line: the words between which a byte is, numbers, paths, and the count of an end line. Our own.
use Rattle.std.specs.Prelude.{ℕ, ◌^◌, ◌&&◌, ◌==◌, nat_lt, List, [], ◌∷◌, if◌then◌else◌, Option, Some, None, Result, Ok, Err, codes}
use Rattle.std.specs.Str.{is_utf8, bytes_eq}
use Rattle.std.specs.Str.Parse.{digits_value}
use Rattle.std.specs.Fmt.{decimal}
use Rattle.path_text.specs.Escape.{reading}
use Rattle.path_text.specs.declared.errors.EscapeError.{EscapeError}

infixl 10 ◌>>=◌
abbrev pub ◌>>=◌ : {A B : Type 0} → Option A → (A → Option B) → Option B
None >>= f = None
(Some x) >>= f = f x

-- the text before the first place of a byte, and the text after it
abbrev pub onto_word : ℕ → Option (List ℕ × List ℕ) → Option (List ℕ × List ℕ)
onto_word b None = None
onto_word b (Some p) = Some (b ∷ p.0, p.1)

unfoldable pub cut : ℕ → List ℕ → Option (List ℕ × List ℕ)
cut c [] = None
cut c (b ∷ bytes) = if b == c then Some ([], bytes) else onto_word b (cut c bytes)

-- a word before a space, read, and the text after the space
unfoldable pub word_at : {A : Type 0} → (List ℕ → Option A) → List ℕ → Option (A × List ℕ)
word_at read text = do
  word ← cut 32 text
  value ← read word.0
  Some (value, word.1)

-- the number of 64 bits whose decimal text is the word
unfoldable pub number_of : List ℕ → Option ℕ
number_of word = if bytes_eq word (decimal (digits_value 10 word)) && nat_lt (digits_value 10 word) (2 ^ 64) then Some (digits_value 10 word) else None

-- the path that a word writes
abbrev pub ok_of : Result (List ℕ) EscapeError → Option (List ℕ)
ok_of (Ok path) = Some path
ok_of (Err e) = None

unfoldable pub path_from : List ℕ → Option (List ℕ)
path_from word = if is_utf8 word then ok_of (reading word) else None

-- the count of an end line
unfoldable pub end_at : List ℕ → Option ℕ
end_at text = do
  word ← cut 32 text
  if bytes_eq word.0 (codes "end") then number_of word.1 else None
